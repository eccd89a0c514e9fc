use Rattle.ig_forest_tables.specs.Views.{item_node_view}
use Rattle.ig_verify.proofs.Choosing.{choice_by}
use Rattle.ig_verify.proofs.nodes.choice_fits.Goals as goal

pub returns : goal.returns
returns c =
    choice_by c.args.core.now c.args.draft.now _ c.args.choice (item_node_view c.in-Some.it) c.has_tag.result c.in-Some.ensures
    (c.completes.ensures.0 c.if-not-completes.false) c.has_tag.ensures
