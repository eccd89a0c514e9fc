use Rattle.std.proofs.Common.{◌≡◌}
use Rattle.std.specs.List.{AllAdjacentBelow}
use Rattle.std.specs.declared.cmp.Ordering.TheVariants.{Less}
use Rattle.ig_forest_tables.specs.Orders.{entry_cmp}
use Rattle.ig_forest.proofs.item_nodes.is_rising.Given as goal

abbrev pub invariant-loop-place : goal.invariant-loop-place
invariant-loop-place l = AllAdjacentBelow (λ e f. entry_cmp e f ≡ Less) l.entries l.place
