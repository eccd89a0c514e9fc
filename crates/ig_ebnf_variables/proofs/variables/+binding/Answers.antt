use Rattle.std.proofs.Common.{◌∙◌, ◌++◌, ap, arith, sym}
use Rattle.std.proofs.lemmas.List.{append-nil}
use Rattle.ig_grammar.specs.View.{symbol_of}
use Rattle.ig_grammar.specs.Visible.{binds}
use Rattle.ig_grammar.specs.CodingMembers.{node_below}
use Rattle.ig_ebnf_variables.proofs.variables.+binding.Goals as goal

pub bind_each-bind-requires : goal.bind_each-bind-requires
bind_each-bind-requires t c =
    let n = node_below c.as_slice-symbol-items.result.now c.args.symbols.now c.loop-symbol.symbol-index
    c.symbol-item.result c.as_slice-symbol-items.ensures c.loop-symbol-test.true c.symbol-item.is in
    omega arith

pub bind-returns-in-Star : goal.bind-returns-in-Star
bind-returns-in-Star t c =
    let v = c.args.variables.now in
    sym (append-nil v) ∙ ap (λ x. v ++ binds v (symbol_of x)) (sym c.in-Star.is)
