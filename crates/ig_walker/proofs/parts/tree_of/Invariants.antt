use Rattle.std.proofs.Common.{◌≡◌, [], drop, vec_items}
use Rattle.ig_walker.specs.Written.{emits}
use Rattle.ig_walker.proofs.parts.tree_of.Given as goal

abbrev pub invariant-loop-visit : goal.invariant-loop-visit
invariant-loop-visit l =
    emits l.forest (vec_items l.parts) (drop l.visit-index l.visits) ≡ emits l.forest [] l.visits
