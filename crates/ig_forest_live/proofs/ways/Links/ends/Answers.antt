use Rattle.std.proofs.Common.{ap}
use Rattle.ig_item.specs.Recorded.{Recording}
use Rattle.ig_item.specs.declared.ways.FurtherEnd.{FurtherEnd}
use Rattle.ig_forest_live.proofs.CodeWays.{group_slice}
use Rattle.ig_forest_live.proofs.ways.Links.ends.Goals as goal

pub returns-clause-ends : goal.returns-clause-ends
returns-clause-ends c =
    group_slice (λ (e : FurtherEnd). e.first) c.group.result.now c.args.self.now.ways.ends c.self.inside.ends c.args.first c.group.ensures
    (ap (λ (r : Recording). r.ways.ends) c.self.view_is) c.self.invariant.ends
