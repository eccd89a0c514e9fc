use Rattle.std.proofs.Common.{ℕ, ◌<◌}
use Rattle.ig_forest_tables.specs.StoredNodes.{rows_in}
use Rattle.ig_forest_reader.specs.Shown.{IsRootRow}
use Rattle.ig_forest_reader.proofs.reader.first_root.Given as goal

abbrev pub invariant-loop-k : goal.invariant-loop-k
invariant-loop-k l = (v : ℕ) → v < l.k → IsRootRow (rows_in l.nodes) v → ⊥
