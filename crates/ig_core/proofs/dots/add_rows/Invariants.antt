use Rattle.std.proofs.Common.{◌≡◌, ◌+◌, ◌≤◌, drop}
use Rattle.std.specs.Prelude.{sum_by}
use Rattle.ig_item.specs.Limits.{most_dots}
use Rattle.ig_core.specs.Dots.{row_dots}
use Rattle.ig_core.specs.CoreOf.{unrooted}
use Rattle.ig_core.proofs.dots.add_rows.Given as goal

abbrev pub invariant-loop-index : goal.invariant-loop-index
invariant-loop-index l =
    (l.dots + sum_by row_dots (unrooted (drop l.index l.decls) (drop l.index l.checked.shapes)) ≡ l.before + sum_by row_dots (unrooted l.decls l.checked.shapes)) ×
    (l.dots ≤ most_dots)
