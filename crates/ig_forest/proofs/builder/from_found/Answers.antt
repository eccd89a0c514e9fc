use Rattle.std.proofs.Common.{◌≡◌, List, length, refl, ap, ◌∙◌, subst}
use Rattle.ig_item.specs.WellKinded.{NoneTwice}
use Rattle.ig_item.specs.Tables.{Tables, items_of}
use Rattle.ig_forest_live.specs.declared.mark.Mark.{Mark}
use Rattle.ig_forest.proofs.CodeLiveItems.{are_live_items, found_apart, found_there}
use Rattle.ig_forest.proofs.builder.from_found.Goals as goal

pub order_of-requires-clause-there : goal.order_of-requires-clause-there
order_of-requires-clause-there c =
    let items : length (items_of c.in_ok-links.links.tables) ≡ length (items_of c.args.recorded.now.tables) =
    ap (λ (z : Tables). length (items_of z)) c.in_ok-links.ensures.same.tables in
    found_there c.args.recorded.now.tables _ c.args.found c.requires.found c.as_slice-marks.result.now
    (ap (λ (z : List Mark). length z) c.as_slice-marks.ensures.value ∙ c.in_ok-mark_table.ensures.long ∙ items)

pub order_of-requires-clause-apart : goal.order_of-requires-clause-apart
order_of-requires-clause-apart c =
    found_apart c.args.recorded.now.tables _ c.args.found c.requires.found
    (subst (λ (z : Tables). NoneTwice (items_of z)) c.in_ok-links.ensures.same.tables c.in_ok-links.ensures.recorded.once)

pub forest-requires-clause-live : goal.forest-requires-clause-live
forest-requires-clause-live c =
    are_live_items _ c.args.recorded.now c.args.recorded.now.tables c.in_ok-mark_table.mark_table.items c.in_ok-order.order.items
    c.in_ok-links.ensures.same c.in_ok-links.ensures.recorded c.core.ensures c.text-2.ensures refl c.requires.found
    c.in_ok-mark_table.ensures c.as_slice-marks.ensures.value c.in_ok-order.ensures c.as_slice.ensures.value
