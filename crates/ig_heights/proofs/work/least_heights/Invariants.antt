use Rattle.ig_heights.specs.Work.{NoRule, Works, weight}
use Rattle.ig_heights.proofs.work.least_heights.Given as goal

abbrev pub invariant-loop-part : goal.invariant-loop-part
invariant-loop-part l = Works l.table l.work NoRule

abbrev pub decreases-loop-part : goal.decreases-loop-part
decreases-loop-part l = weight l.table l.work
