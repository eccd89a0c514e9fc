use Rattle.std.proofs.Common.{◌≡◌, ◌++◌, drop, vec_items}
use Rattle.ig_walker.proofs.walk.copied.Given as goal

abbrev pub invariant-loop-visit : goal.invariant-loop-visit
invariant-loop-visit l = vec_items l.copy ++ drop l.visit-index l.visits ≡ l.visits
