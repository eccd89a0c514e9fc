use Rattle.ig_run_tables.specs.InstanceSet.{Walks}
use Rattle.ig_run_tables.proofs.instance_set.InstanceSet.place_of.Given as goal

abbrev pub invariant-loop-at : goal.invariant-loop-at
invariant-loop-at l = Walks l.self-inside.buckets.mask l.self-inside.keys.items l.key l.at

abbrev pub decreases-loop-at : goal.decreases-loop-at
decreases-loop-at l = l.at
