use Rattle.std.proofs.Common.{map, take}
use Rattle.ig_forest_live.specs.Lists.{ArePlaces}
use Rattle.ig_forest_live.proofs.environments.places_of.Given as goal

abbrev pub invariant-loop-k : goal.invariant-loop-k
invariant-loop-k l = ArePlaces (take l.k l.items.environments) (map (λ x. x.now) l.lists) l.places.items
