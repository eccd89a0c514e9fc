use Rattle.std.proofs.Common.{[], ◌∷◌, length, reverse, vec_items}
use Rattle.ig_walker.specs.Options.{root_goal}
use Rattle.ig_walker.specs.States.{Backs}
use Rattle.ig_walker.proofs.walk.back.Given as goal

abbrev pub invariant-loop-visit : goal.invariant-loop-visit
invariant-loop-visit l =
    Backs l.forest (root_goal l.forest l.depth ∷ []) (vec_items l.initial.visits) (vec_items l.visits) (reverse (vec_items l.pending))

abbrev pub decreases-loop-visit : goal.decreases-loop-visit
decreases-loop-visit l = length (vec_items l.visits)
