use Rattle.std.proofs.Common.{◌≡◌, drop, map}
use Rattle.ig_grammar.specs.Alternative.{gathered_alternatives}
use Rattle.ig_grammar.specs.Symbol.{gathered}
use Rattle.ig_grammar.specs.View.{symbol_of}
use Rattle.ig_blocks_parts.specs.Blocks.{symbols_have_block, choices_have_block}
use Rattle.ig_blocks_parts.proofs.marks.+marks.Given as goal

abbrev pub invariant-choices_have_block-loop-choice : goal.invariant-choices_have_block-loop-choice
invariant-choices_have_block-loop-choice l =
    choices_have_block (gathered_alternatives (drop l.choice-index l.choice-items)) ≡ choices_have_block (gathered_alternatives l.choice-items)

abbrev pub invariant-symbols_have_block-loop-symbol : goal.invariant-symbols_have_block-loop-symbol
invariant-symbols_have_block-loop-symbol l =
    symbols_have_block (gathered (map symbol_of (drop l.symbol-index l.symbol-items))) ≡ symbols_have_block (gathered (map symbol_of l.symbol-items))
