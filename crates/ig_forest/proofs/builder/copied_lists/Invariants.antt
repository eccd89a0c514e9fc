use Rattle.std.proofs.Common.{◌≡◌, map, take}
use Rattle.ig_forest.proofs.builder.copied_lists.Given as goal

abbrev pub invariant-loop-list : goal.invariant-loop-list
invariant-loop-list l = l.table ≡ map (λ x. x.now) (take l.list-index l.lists)
