use Rattle.std.proofs.Common.{arith, IfOk, suc, subst, sym, ◌∙◌, ◌≡◌}
use Rattle.ig_grammar.specs.CodingMembers.{node_below, choice_below}
use Rattle.ig_ebnf_variables.proofs.numbering.+numbering.Goals as goal

pub count_symbols-count-requires : goal.count_symbols-count-requires
count_symbols-count-requires t c =
    let n = node_below c.as_slice-symbol-items.result.now c.args.symbols.now c.loop-symbol.symbol-index
    c.symbol-item.result c.as_slice-symbol-items.ensures c.loop-symbol-test.true c.symbol-item.is in
    omega arith

pub count_alternatives-count_symbols-requires : goal.count_alternatives-count_symbols-requires
count_alternatives-count_symbols-requires t c =
    let n = choice_below c.as_slice-alternative-items.result.now c.args.alternatives.now
    c.loop-alternative.alternative-index c.alternative-item.result c.as_slice-alternative-items.ensures
    c.loop-alternative-test.true c.alternative-item.is in
    omega arith

pub count-returns-in_ok-count_alternatives-in-Group-clause-number : goal.count-returns-in_ok-count_alternatives-in-Group-clause-number
count-returns-in_ok-count_alternatives-in-Group-clause-number t c =
    rw c.in-Group.is (subst (λ z. IfOk c.successor-in-Group.result (λ n. n ≡ suc z))
    (c.in_ok-count_alternatives-in-Group.ensures.number ∙ sym (c.groups_are_gathered.ensures _).counted) c.successor-in-Group.ensures.number)
