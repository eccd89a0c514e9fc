use Rattle.std.proofs.Common.{ap}
use Rattle.ig_item.specs.Recorded.{Recording}
use Rattle.ig_item.specs.declared.ways.FurtherWay.{FurtherWay}
use Rattle.ig_forest_live.proofs.CodeWays.{group_slice}
use Rattle.ig_forest_live.proofs.ways.Links.further.Goals as goal

pub returns : goal.returns
returns c =
    group_slice (λ (w : FurtherWay). w.item) c.group.result.now c.args.self.now.ways.further c.self.inside.further c.args.number c.group.ensures
    (ap (λ (r : Recording). r.ways.further) c.self.view_is) c.self.invariant.further
