use Rattle.std.proofs.Common.{take}
use Rattle.ig_query.proofs.ItemPlaces.{Tells, place}
use Rattle.ig_query.proofs.Through.{IsMost}
use Rattle.ig_query.proofs.furthest.furthest.Given as goal

abbrev pub invariant-loop-item : goal.invariant-loop-item
invariant-loop-item l = IsMost (Tells l.core l.items) (place l.core l.items) (take l.item-index l.all) l.most
