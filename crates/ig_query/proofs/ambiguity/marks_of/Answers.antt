use Rattle.std.proofs.Common.{◌↔◌, IsTrue, ◌∙◌, ap, sym, subst}
use Rattle.std.specs.Prelude.{option_map}
use Rattle.ig_forest_tables.specs.Views.{item_node_view}
use Rattle.ig_query.specs.CodeAmbiguity.{LinksToMark}
use Rattle.ig_query.proofs.Forks.{marks_next}
use Rattle.ig_query.proofs.ambiguity.marks_of.Goals as goal

pub loop-number-preserved : goal.loop-number-preserved
loop-number-preserved c =
    marks_next c.args.forest.now c.requires c.loop-number.number (item_node_view c.in-Some.item) c.loop-number.marks.items
    c.loop-number.invariant (sym c.item.ensures ∙ ap (option_map item_node_view) c.in-Some.is) c.links_to_mark-mark.result c.push.new.self.items
    (subst
    (λ z. IsTrue c.links_to_mark-mark.result ↔ LinksToMark (item_node_view c.in-Some.item).entries z)
    c.as_slice.ensures.value c.links_to_mark-mark.ensures)
    c.in_ok-push.ensures.items
