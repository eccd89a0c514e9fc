use Rattle.ig_forest_live.proofs.CodeFirstRoot.{root_by_view}
use Rattle.ig_forest_live.proofs.root.is_of_root.Goals as goal

pub returns : goal.returns
returns c = root_by_view c.args.items.now.instances c.args.instance c.in-Some.view _ c.in-Some.ensures c.is_root_view.ensures
