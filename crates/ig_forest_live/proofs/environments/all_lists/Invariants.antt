use Rattle.std.proofs.Common.{◌≡◌, map, take}
use Rattle.ig_forest_live.proofs.environments.all_lists.Given as goal

abbrev pub invariant-loop-k : goal.invariant-loop-k
invariant-loop-k l = map (λ x. x.now) l.lists.items ≡ take l.k l.items.environments
