use Rattle.std.proofs.Common.{◌≡◌, ℕ, List, drop}
use Rattle.ig_blocks_parts.specs.Blocks.{kind_called}
use Rattle.ig_blocks_parts.specs.ColumnCode.{kind_by}
use Rattle.ig_blocks_parts.proofs.guide.kinds_of.Given as goal

abbrev pub invariant-loop-index : goal.invariant-loop-index
invariant-loop-index l =
    (name : List ℕ) → kind_by l.kinds name ≡ kind_called (drop l.index l.decls) (drop l.index l.checked.shapes) name
