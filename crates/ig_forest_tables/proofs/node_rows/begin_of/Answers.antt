use Rattle.std.proofs.Common.{sym}
use Rattle.ig_forest_tables.proofs.StoredNodes.{begin_found, begin_lacks}
use Rattle.ig_forest_tables.proofs.node_rows.begin_of.Goals as goal

pub returns-in-Some : goal.returns-in-Some
returns-in-Some c = begin_found c.args.all c.args.begun.now c.args.k c.in-Some.node (sym c.in-Some.ensures)

pub returns-in-None : goal.returns-in-None
returns-in-None c = begin_lacks c.args.all c.args.begun.now c.args.k (sym c.in-None.ensures)
