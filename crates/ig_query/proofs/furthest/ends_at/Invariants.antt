use Rattle.std.proofs.Common.{take}
use Rattle.ig_query.proofs.ItemPlaces.{EndsHere}
use Rattle.ig_query.proofs.Through.{NoneHas}
use Rattle.ig_query.proofs.furthest.ends_at.Given as goal

abbrev pub invariant-loop-item : goal.invariant-loop-item
invariant-loop-item l = NoneHas (EndsHere l.core l.items l.position) (take l.item-index l.all)
