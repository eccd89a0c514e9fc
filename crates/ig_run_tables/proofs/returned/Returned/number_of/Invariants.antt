use Rattle.ig_run_tables.specs.Returned.{Walks}
use Rattle.ig_run_tables.proofs.returned.Returned.number_of.Given as goal

abbrev pub invariant-loop-at : goal.invariant-loop-at
invariant-loop-at l = Walks l.self-inside.mask l.self-inside.base l.self-inside.cells.items l.item l.at

abbrev pub decreases-loop-at : goal.decreases-loop-at
decreases-loop-at l = l.at
