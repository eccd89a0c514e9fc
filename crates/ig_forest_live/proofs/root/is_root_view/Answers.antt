use Rattle.ig_forest_live.proofs.CodeFirstRoot.{told_by_values}
use Rattle.ig_forest_live.proofs.root.is_root_view.Goals as goal

pub returns : goal.returns
returns c = told_by_values c.args.view c.is_empty.result c.if-view-gt0.false c.if-view-gt0-2.false c.is_empty.ensures
