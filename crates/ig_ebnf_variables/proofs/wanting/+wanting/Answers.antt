use Rattle.std.proofs.Common.{arith}
use Rattle.ig_grammar.specs.CodingMembers.{node_below, choice_below}
use Rattle.ig_ebnf_variables.proofs.wanting.+wanting.Goals as goal

pub symbols_need-needs-requires : goal.symbols_need-needs-requires
symbols_need-needs-requires t c =
    let n = node_below c.as_slice-symbol-items.result.now c.args.symbols.now c.loop-symbol.symbol-index
    c.symbol-item.result c.as_slice-symbol-items.ensures c.loop-symbol-test.true c.symbol-item.is in
    omega arith

pub choices_need-symbols_need-requires : goal.choices_need-symbols_need-requires
choices_need-symbols_need-requires t c =
    let n = choice_below c.as_slice-choice-items.result.now c.args.choices.now c.loop-choice.choice-index
    c.choice-item.result c.as_slice-choice-items.ensures c.loop-choice-test.true c.choice-item.is in
    omega arith
