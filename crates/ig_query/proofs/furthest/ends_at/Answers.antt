use Rattle.ig_query.proofs.ItemPlaces.{never_ends_all}
use Rattle.ig_query.proofs.furthest.ends_at.Goals as goal

pub returns : goal.returns
returns c = (
  λ t. cc,
  λ e.
      absurd
      (never_ends_all c.args.core.now c.args.items.now c.items-all.result.now c.loop-item.item-index c.args.position c.items-all.ensures.items
      c.loop-item-test.false c.loop-item.invariant e),
)
