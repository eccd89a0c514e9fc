use Rattle.std.proofs.Common.{◌≡◌, map, take}
use Rattle.ig_blocks_parts.specs.Setting.{pair_by}
use Rattle.ig_blocks_parts.specs.Blocks.{level_by}
use Rattle.ig_blocks_parts.specs.ColumnCode.{setting_by}
use Rattle.ig_blocks.proofs.lowering.lower_levels.Given as goal

abbrev pub invariant-loop-level : goal.invariant-loop-level
invariant-loop-level l = l.all ≡ map (level_by (setting_by l.guide) (pair_by l.paired)) (take l.level-index l.level-items)
