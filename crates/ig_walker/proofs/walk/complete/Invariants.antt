use Rattle.std.proofs.Common.{length, reverse, vec_items}
use Rattle.ig_walker.specs.States.{Completes}
use Rattle.ig_walker.proofs.Weights.{weight}
use Rattle.ig_walker.proofs.walk.complete.Given as goal

abbrev pub invariant-loop-goal : goal.invariant-loop-goal
invariant-loop-goal l =
    Completes l.forest (reverse (vec_items l.initial.pending)) (vec_items l.initial.visits) (reverse (vec_items l.pending)) (vec_items l.visits)

abbrev pub decreases-loop-goal : goal.decreases-loop-goal
decreases-loop-goal l = weight (length l.forest.items) (reverse (vec_items l.pending))
