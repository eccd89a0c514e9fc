use Rattle.std.proofs.Common.{◌≡◌, ◌++◌, drop, map}
use Rattle.ig_grammar.specs.View.{symbol_of}
use Rattle.ig_blocks_parts.specs.Blocks.{symbols_by, alternative_by}
use Rattle.ig_blocks_parts.specs.ColumnCode.{pair_of, setting_by}
use Rattle.ig_blocks.proofs.symbols.+bodies.Given as goal

abbrev pub invariant-sequence-loop-symbol : goal.invariant-sequence-loop-symbol
invariant-sequence-loop-symbol l =
    l.done ++ symbols_by (setting_by l.guide) (pair_of l.pair) (map symbol_of (drop l.symbol-index l.symbol-items)) ≡
    symbols_by (setting_by l.guide) (pair_of l.pair) (map symbol_of l.symbol-items)

abbrev pub invariant-choices-loop-cell : goal.invariant-choices-loop-cell
invariant-choices-loop-cell l =
    l.done ++ map (alternative_by (setting_by l.guide) (pair_of l.pair)) (drop l.cell-index l.cell-items) ≡
    map (alternative_by (setting_by l.guide) (pair_of l.pair)) l.cell-items
