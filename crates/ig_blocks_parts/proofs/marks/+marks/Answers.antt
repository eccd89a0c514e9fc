use Rattle.std.proofs.Common.{ap, arith}
use denote.Param.Weighed.{at_most}
use Rattle.ig_grammar.specs.CodingAlternatives.{alternatives_nodes}
use Rattle.ig_grammar.specs.CodingFalls.{alternative_falls, most_alternatives, most_symbols}
use Rattle.ig_grammar.specs.CodingSizes.{list_nodes}
use Rattle.ig_grammar.specs.declared.symbol.Alts.TheDeep.{deep-Symbol, deep-Alt}
use Rattle.ig_blocks_parts.proofs.marks.+marks.Goals as goal

pub choices_have_block-symbols_have_block-requires : goal.choices_have_block-symbols_have_block-requires
choices_have_block-symbols_have_block-requires t c = (
  omega (
    arith,
    alternative_falls c.choice-item.result,
    ap deep-Alt c.choice-item.is,
    at_most deep-Alt c.as_slice-choice-items.result.now c.loop-choice.choice-index c.choice-item.result c.loop-choice-test.true,
    most_alternatives c.as_slice-choice-items.result.now,
    ap alternatives_nodes c.as_slice-choice-items.ensures,
  ),
  tt,
)

pub symbols_have_block-has_block-requires : goal.symbols_have_block-has_block-requires
symbols_have_block-has_block-requires t c = (
  omega (
    arith,
    ap deep-Symbol c.symbol-item.is,
    at_most deep-Symbol c.as_slice-symbol-items.result.now c.loop-symbol.symbol-index c.symbol-item.result c.loop-symbol-test.true,
    most_symbols c.as_slice-symbol-items.result.now,
    ap list_nodes c.as_slice-symbol-items.ensures,
  ),
  tt,
)
