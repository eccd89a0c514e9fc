use Rattle.std.proofs.Common.{length, ap, ◌∙◌}
use Rattle.ig_item.specs.Tables.{Tables}
use Rattle.ig_item.specs.Ways.{WayLists}
use Rattle.ig_forest_live.proofs.CodeWays.{ways_there, ends_there, same_run, are_links}
use Rattle.ig_forest_live.proofs.ways.Links.of.Goals as goal

pub of-requires-clause-numbers : goal.of-requires-clause-numbers
of-requires-clause-numbers c =
    ways_there c.args.recorded.now c.items.ensures.recorded c.len-count.result c.further.result.now
    (c.len-count.ensures.number ∙ ap (λ (t : Tables). length t.items) c.items.ensures.items)
    (c.further.ensures ∙ ap (λ (w : WayLists). w.further) c.ways-ways.ensures.ways)

pub of-requires-2-clause-numbers : goal.of-requires-2-clause-numbers
of-requires-2-clause-numbers c =
    ends_there c.args.recorded.now c.items.ensures.recorded c.len-count.result c.ends.result.now
    (c.len-count.ensures.number ∙ ap (λ (t : Tables). length t.items) c.items.ensures.items)
    (c.ends.ensures ∙ ap (λ (w : WayLists). w.ends) c.ways-ways.ensures.ways)

pub invariant_of-result : goal.invariant_of-result
invariant_of-result c =
    are_links c.args.recorded.now c.items.ensures.recorded c.in_ok-further.further c.in_ok-ends.ends c.further.result.now c.ends.result.now
    (c.further.ensures ∙ ap (λ (w : WayLists). w.further) c.ways-ways.ensures.ways)
    (c.ends.ensures ∙ ap (λ (w : WayLists). w.ends) c.ways-ways.ensures.ways)
    c.in_ok-further.ensures c.in_ok-ends.ensures

pub returns-clause-same : goal.returns-clause-same
returns-clause-same c =
    same_run c.args.recorded.now c.items.ensures.recorded c.in_ok-further.further c.in_ok-ends.ends c.further.result.now c.ends.result.now
    (c.further.ensures ∙ ap (λ (w : WayLists). w.further) c.ways-ways.ensures.ways)
    (c.ends.ensures ∙ ap (λ (w : WayLists). w.ends) c.ways-ways.ensures.ways)
    c.in_ok-further.ensures c.in_ok-ends.ensures

pub returns-clause-recorded : goal.returns-clause-recorded
returns-clause-recorded c =
    (are_links c.args.recorded.now c.items.ensures.recorded c.in_ok-further.further c.in_ok-ends.ends c.further.result.now c.ends.result.now
    (c.further.ensures ∙ ap (λ (w : WayLists). w.further) c.ways-ways.ensures.ways)
    (c.ends.ensures ∙ ap (λ (w : WayLists). w.ends) c.ways-ways.ensures.ways)
    c.in_ok-further.ensures c.in_ok-ends.ensures).recorded
