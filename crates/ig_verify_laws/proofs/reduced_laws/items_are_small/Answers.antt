use Rattle.ig_verify_laws.proofs.SmallItems.{items_small}
use Rattle.ig_verify_laws.proofs.reduced_laws.items_are_small.Goals as goal

pub returns : goal.returns
returns c =
    items_small
    (record {
      values = c.values_are_small.ensures;
      in_text = c.items_are_in_text.ensures;
      closed = c.reachable_is_closed.ensures;
    })
