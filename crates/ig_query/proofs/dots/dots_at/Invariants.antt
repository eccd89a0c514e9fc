use Rattle.std.proofs.Common.{take}
use Rattle.ig_query.proofs.ItemDots.{IsThere, its_dot}
use Rattle.ig_query.proofs.Through.{IsImage}
use Rattle.ig_query.proofs.dots.dots_at.Given as goal

abbrev pub invariant-loop-item : goal.invariant-loop-item
invariant-loop-item l = IsImage (IsThere l.items l.position) (its_dot l.items l.position) (take l.item-index l.all) l.dots.keys
