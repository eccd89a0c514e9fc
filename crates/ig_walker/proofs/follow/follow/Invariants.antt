use Rattle.std.proofs.Common.{[], ◌∷◌, drop, length, reverse, vec_items}
use Rattle.ig_walker.specs.Options.{root_goal}
use Rattle.ig_walker.proofs.Following.{Followed}
use Rattle.ig_walker.proofs.Weights.{weight}
use Rattle.ig_walker.proofs.follow.follow.Given as goal

abbrev pub invariant-loop-goal : goal.invariant-loop-goal
invariant-loop-goal l =
    Followed l.forest (root_goal l.forest l.depth ∷ []) l.cursor (vec_items l.visits) (drop l.place l.cursor) (reverse (vec_items l.pending))

abbrev pub decreases-loop-goal : goal.decreases-loop-goal
decreases-loop-goal l = weight (length l.forest.items) (reverse (vec_items l.pending))
