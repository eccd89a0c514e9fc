use Rattle.std.proofs.Common.{◌≡◌, ◌++◌, drop}
use Rattle.ig_blocks_parts.specs.Blocks.{lowered_declarations}
use Rattle.ig_blocks_parts.specs.ColumnCode.{setting_by}
use Rattle.ig_blocks.proofs.lowering.lower_declarations.Given as goal

abbrev pub invariant-loop-index : goal.invariant-loop-index
invariant-loop-index l =
    l.all ++ lowered_declarations (setting_by l.guide) (drop l.index l.checked.shapes) (drop l.index l.decls) ≡
    lowered_declarations (setting_by l.guide) l.checked.shapes l.decls
