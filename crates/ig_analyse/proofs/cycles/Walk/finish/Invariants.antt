use Rattle.ig_analyse.specs.Groups.{Goes, left_to_do}
use Rattle.ig_analyse.proofs.cycles.Walk.finish.Given as goal

abbrev pub invariant-loop-group : goal.invariant-loop-group
invariant-loop-group l = Goes l.rows l.fn.self l.self (left_to_do l.rows l.fn.self)

abbrev pub decreases-loop-group : goal.decreases-loop-group
decreases-loop-group l = left_to_do l.rows l.self
