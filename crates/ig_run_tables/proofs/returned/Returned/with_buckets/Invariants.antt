use Rattle.std.proofs.Common.{◌≡◌, ◌++◌, drop}
use Rattle.ig_run_tables.specs.Returned.{entries_of}
use Rattle.ig_run_tables.proofs.returned.Returned.with_buckets.Given as goal

abbrev pub invariant-loop-cell : goal.invariant-loop-cell
invariant-loop-cell l = l.larger ++ entries_of (drop l.cell-index l.cells) ≡ entries_of l.cells
