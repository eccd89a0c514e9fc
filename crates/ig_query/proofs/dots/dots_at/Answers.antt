use Rattle.std.proofs.Common.{◌+◌, sym, subst, take}
use Rattle.ig_query.proofs.ItemDots.{IsThere, its_dot, dots_with, dots_without, dots_all}
use Rattle.ig_query.proofs.Through.{IsImage}
use Rattle.ig_query.proofs.dots.dots_at.Goals as goal
use Rattle.ig_query.proofs.dots.dots_at.Goals.{then-is_at+in_ok-add_dot, else-is_at}

pub loop-item-preserved : goal.loop-item-preserved
loop-item-preserved c =
    elim c.if-is_at.branch [
      | then-is_at+in_ok-add_dot w ↦
          subst
          (λ v.
          IsImage (IsThere c.args.items.now c.args.position) (its_dot c.args.items.now c.args.position)
          (take (c.loop-item.item-index + 1) c.items-all.result.now) v.keys)
          (sym w.dots-is)
          (dots_with c.args.items.now c.args.position c.items-all.result.now c.loop-item.item-index _ c.loop-item.dots.keys _ _
          c.loop-item-test.true c.loop-item.invariant (c.is_at.ensures.0 w.if-is_at.true) w.dot_of.ensures w.in_ok-add_dot.ensures)
      | else-is_at w ↦
          subst
          (λ v.
          IsImage (IsThere c.args.items.now c.args.position) (its_dot c.args.items.now c.args.position)
          (take (c.loop-item.item-index + 1) c.items-all.result.now) v.keys)
          (sym w.dots-is)
          (dots_without c.args.items.now c.args.position c.items-all.result.now c.loop-item.item-index _ c.loop-item.dots.keys
          c.loop-item-test.true c.loop-item.invariant (λ e. let t = c.is_at.ensures.1 e in let f = w.if-is_at.false in cc))
    ]

pub returns : goal.returns
returns c =
    dots_all c.args.items.now c.args.position c.items-all.result.now c.loop-item.item-index c.loop-item.dots.keys c.items-all.ensures.items
    c.loop-item-test.false c.loop-item.invariant
