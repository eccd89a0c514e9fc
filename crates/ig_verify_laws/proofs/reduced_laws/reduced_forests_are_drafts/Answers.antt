use Rattle.ig_verify_laws.proofs.Drafting.{reduced_is_draft}
use Rattle.ig_verify_laws.proofs.reduced_laws.reduced_forests_are_drafts.Goals as goal

pub returns : goal.returns
returns c =
    reduced_is_draft
    (record {
      few = c.alternatives_are_few.ensures;
      one = c.alternatives_are_one.ensures;
      fit = c.environments_fit.ensures;
      grow = c.environments_grow.ensures;
      in_text = c.items_are_in_text.ensures;
      small = c.items_are_small.ensures;
      live = c.live_items_are_reachable.ensures;
      twice = c.no_key_stands_twice.ensures;
      closed = c.reachable_is_closed.ensures;
      trim = c.reduced_forest_is_trim.ensures;
    })
