use Rattle.std.specs.List.Sorted.{IsSortedWithin}
use Rattle.std.specs.Ordering.{is_lt}
use Rattle.ig_forest_tables.specs.Orders.{choice_cmp}
use Rattle.ig_forest_tables.proofs.choice_order.is_in_order.Given as goal

abbrev pub invariant-loop-place : goal.invariant-loop-place
invariant-loop-place l = IsSortedWithin (λ x y. is_lt (choice_cmp x y)) l.choices 0 l.place
