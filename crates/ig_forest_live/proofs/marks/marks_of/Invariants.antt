use Rattle.ig_forest_live.proofs.CodeWalk.{Walked}
use Rattle.ig_forest_live.proofs.marks.marks_of.Given as goal

abbrev pub invariant-loop-turn : goal.invariant-loop-turn
invariant-loop-turn l = Walked l.links.ways l.root l.walk l.turn
