use Rattle.ig_heights.proofs.Rounds.{Walks}
use Rattle.ig_heights.proofs.work.Work.visit.Given as goal

abbrev pub invariant-loop-behind : goal.invariant-loop-behind
invariant-loop-behind l = Walks l.table l.part l.behind l.initial.self l.self

abbrev pub decreases-loop-behind : goal.decreases-loop-behind
decreases-loop-behind l = l.behind
