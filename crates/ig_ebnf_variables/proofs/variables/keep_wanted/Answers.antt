use Rattle.std.proofs.Common.{◌∙◌, ◌++◌, ap, append_assoc}
use Rattle.std.specs.Prelude.{not, ◌&&◌}
use Rattle.ig_text.proofs.Options.{on_ok_same}
use Rattle.ig_grammar.specs.View.{symbol_of}
use Rattle.ig_grammar.specs.Visible.{parameters}
use Rattle.ig_pass.specs.Needs.{needs, is_added}
use Rattle.ig_ebnf_variables.specs.Lists.{keep}
use Rattle.ig_ebnf_variables.proofs.variables.keep_wanted.Goals as goal

pub returns : goal.returns
returns c =
    let v = c.args.variables.now in
    let source = keep (λ n. not (is_added n) && needs n (symbol_of c.args.symbol.now)) v in
    let added = keep (λ n. is_added n && needs n (symbol_of c.args.symbol.now)) v in
    on_ok_same c.keep-2.result _ _ _ c.keep-2.ensures
    (ap (λ z. z ++ added) c.in_ok-keep.ensures ∙ append_assoc (parameters c.args.params.now) source added)
