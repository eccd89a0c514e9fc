use Rattle.std.proofs.Common.{◌≡◌, ◌-◌, length, Some, None, rules}
use Rattle.ig_forest_tables.proofs.StoredNodes.{last_code}
use Rattle.ig_forest_tables.proofs.node_rows.NodeRows.last_row.Goals as goal

pub returns-in-Some : goal.returns-in-Some
returns-in-Some c =
    let long : c.len.result ≡ length c.self.inside.begun.items = search rules in
    let last : c.saturating_sub-last.result ≡ c.len.result - 1 = search rules in
    last_code c.self.inside.choices.items c.self.inside.begun.items c.as_slice.result.now c.args.self.now c.len.result c.saturating_sub-last.result (Some c.in-Some.node)
    c.self.view_is c.as_slice.ensures.value long last c.in-Some.ensures

pub returns-in-None : goal.returns-in-None
returns-in-None c =
    let long : c.len.result ≡ length c.self.inside.begun.items = search rules in
    let last : c.saturating_sub-last.result ≡ c.len.result - 1 = search rules in
    last_code c.self.inside.choices.items c.self.inside.begun.items c.as_slice.result.now c.args.self.now c.len.result c.saturating_sub-last.result None
    c.self.view_is c.as_slice.ensures.value long last c.in-None.ensures
