use Rattle.std.proofs.Common.{◌≡◌, ◌++◌, drop, vec_items}
use Rattle.ig_walker.specs.Options.{options}
use Rattle.ig_walker.specs.Walks.{cursor}
use Rattle.ig_walker.proofs.parts.cursor_of.Given as goal

abbrev pub invariant-loop-visit : goal.invariant-loop-visit
invariant-loop-visit l =
    vec_items l.numbers ++ cursor (options l.forest) (drop l.visit-index l.visits) ≡ cursor (options l.forest) l.visits
