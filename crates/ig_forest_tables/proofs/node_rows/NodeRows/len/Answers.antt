use Rattle.std.proofs.Common.{◌≡◌, length, rules, sym, ap, ◌∙◌}
use Rattle.ig_forest_tables.proofs.StoredNodes.{length-nodes}
use Rattle.ig_forest_tables.proofs.node_rows.NodeRows.len.Goals as goal

pub returns : goal.returns
returns c =
    let long : c.len.result ≡ length c.self.inside.begun.items = search rules in
    long ∙ sym (length-nodes c.self.inside.choices.items c.self.inside.begun.items) ∙ ap length c.self.view_is
