use Rattle.std.proofs.Common.{◌∙◌, ◌≤◌, ap, sym, subst}
use Rattle.std.specs.Prelude.{option_map}
use Rattle.ig_forest_tables.specs.Views.{item_node_view}
use Rattle.ig_show_texts.specs.ForestText.{item_text}
use Rattle.ig_show_texts.proofs.ForestListing.{next_numbered, none_numbered}
use Rattle.ig_show_texts.proofs.forest_text.push_items.Goals as goal

pub loop-number-preserved : goal.loop-number-preserved
loop-number-preserved c =
    next_numbered item_text c.args.forest.now.items c.loop-number.number (item_node_view c.in-Some.item) c.loop-number.out.items
    (sym c.item.ensures ∙ ap (option_map item_node_view) c.in-Some.is) c.loop-number.invariant c.in_ok-push_item.ensures

pub returns : goal.returns
returns c =
    none_numbered item_text c.args.forest.now.items c.loop-number.number c.loop-number.out.items
    (subst (λ n. n ≤ c.loop-number.number) c.items-number-end.ensures c.loop-number-test.false) c.loop-number.invariant
