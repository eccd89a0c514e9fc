use Rattle.std.proofs.Common.{◌∙◌, ◌≤◌, ap, sym, subst}
use Rattle.std.specs.Prelude.{option_map}
use Rattle.ig_forest_tables.specs.Views.{node_view}
use Rattle.ig_show_texts.specs.ForestText.{node_text}
use Rattle.ig_show_texts.proofs.ForestListing.{next_numbered, none_numbered}
use Rattle.ig_show_texts.proofs.forest_text.push_nodes.Goals as goal

pub loop-number-preserved : goal.loop-number-preserved
loop-number-preserved c =
    next_numbered node_text c.args.forest.now.nodes c.loop-number.number (node_view c.in-Some.node) c.loop-number.out.items
    (sym c.node.ensures ∙ ap (option_map node_view) c.in-Some.is) c.loop-number.invariant c.in_ok-push_node.ensures

pub returns : goal.returns
returns c =
    none_numbered node_text c.args.forest.now.nodes c.loop-number.number c.loop-number.out.items
    (subst (λ n. n ≤ c.loop-number.number) c.nodes-number-end.ensures c.loop-number-test.false) c.loop-number.invariant
