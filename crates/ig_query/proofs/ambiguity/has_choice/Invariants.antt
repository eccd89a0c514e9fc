use Rattle.std.proofs.Common.{◌≡◌, ℕ, ◌<◌, ◌≤◌, Some, length, slice_get}
use Rattle.ig_forest_tables.specs.Forest.{Node}
use Rattle.ig_query.proofs.ambiguity.has_choice.Given as goal

abbrev pub invariant-loop-number : goal.invariant-loop-number
invariant-loop-number l =
    (v : ℕ) (node : Node) → v < l.number → slice_get l.forest.nodes v ≡ Some node → length node.alternatives ≤ 1
