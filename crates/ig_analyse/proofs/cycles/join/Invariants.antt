use Rattle.std.proofs.Common.{length}
use Rattle.ig_analyse.specs.Groups.{Drops}
use Rattle.ig_analyse.proofs.cycles.join.Given as goal

abbrev pub invariant-loop-group : goal.invariant-loop-group
invariant-loop-group l = Drops l.place l.fn.groups.items l.groups.items

abbrev pub decreases-loop-group : goal.decreases-loop-group
decreases-loop-group l = length l.groups.items
