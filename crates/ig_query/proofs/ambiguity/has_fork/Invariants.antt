use Rattle.std.proofs.Common.{◌≡◌, ℕ, ◌<◌, ◌≤◌, Some, length, slice_get}
use Rattle.ig_forest_tables.specs.Forest.{ItemNode}
use Rattle.ig_query.proofs.ambiguity.has_fork.Given as goal

abbrev pub invariant-loop-number : goal.invariant-loop-number
invariant-loop-number l =
    (k : ℕ) (it : ItemNode) → k < l.number → slice_get l.forest.items k ≡ Some it → length it.entries ≤ 1
