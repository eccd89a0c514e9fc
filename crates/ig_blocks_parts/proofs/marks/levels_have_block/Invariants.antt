use Rattle.std.proofs.Common.{◌≡◌, drop}
use Rattle.ig_blocks_parts.specs.Blocks.{levels_have_block}
use Rattle.ig_blocks_parts.proofs.marks.levels_have_block.Given as goal

abbrev pub invariant-loop-level : goal.invariant-loop-level
invariant-loop-level l = levels_have_block (drop l.level-index l.levels) ≡ levels_have_block l.levels
