use Rattle.std.proofs.Common.{◌+◌, ◌∙◌, sym, subst, take}
use Rattle.ig_query.proofs.ItemPlaces.{Tells, place, furthest_with, furthest_without, furthest_all}
use Rattle.ig_query.proofs.Through.{IsMost}
use Rattle.ig_query.proofs.furthest.furthest.Goals as goal
use Rattle.ig_query.proofs.furthest.furthest.Goals.{then-reports, else-reports}

pub loop-item-preserved : goal.loop-item-preserved
loop-item-preserved c =
    elim c.if-reports.branch [
      | then-reports w ↦
          furthest_with c.args.core.now c.args.items.now c.items-all.result.now c.loop-item.item-index _ c.loop-item.most c.if-reports.most
          c.loop-item-test.true c.loop-item.invariant (c.reports.ensures.0 w.if-reports.true) (w.most-is ∙ w.greater-most.ensures)
      | else-reports w ↦
          subst
          (IsMost (Tells c.args.core.now c.args.items.now) (place c.args.core.now c.args.items.now)
          (take (c.loop-item.item-index + 1) c.items-all.result.now))
          (sym w.most-is)
          (furthest_without c.args.core.now c.args.items.now c.items-all.result.now c.loop-item.item-index _ c.loop-item.most
          c.loop-item-test.true c.loop-item.invariant
          (λ tells. let t = c.reports.ensures.1 tells in let f = w.if-reports.false in cc))
    ]

pub returns : goal.returns
returns c =
    furthest_all c.args.core.now c.args.items.now c.items-all.result.now c.loop-item.item-index c.loop-item.most c.items-all.ensures.items
    c.loop-item-test.false c.loop-item.invariant
