use Rattle.std.proofs.Common.{Some, None}
use Rattle.ig_forest_tables.proofs.StoredNodes.{row_code}
use Rattle.ig_forest_tables.proofs.node_rows.NodeRows.row.Goals as goal

pub returns-in-Some : goal.returns-in-Some
returns-in-Some c =
    row_code c.self.inside.choices.items c.self.inside.begun.items c.as_slice.result.now c.args.self.now c.args.k (Some c.in-Some.node)
    c.self.view_is c.as_slice.ensures.value c.in-Some.ensures

pub returns-in-None : goal.returns-in-None
returns-in-None c =
    row_code c.self.inside.choices.items c.self.inside.begun.items c.as_slice.result.now c.args.self.now c.args.k None
    c.self.view_is c.as_slice.ensures.value c.in-None.ensures
