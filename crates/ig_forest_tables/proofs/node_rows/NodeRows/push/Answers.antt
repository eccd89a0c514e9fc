use Rattle.std.proofs.Common.{List, [], ◌∷◌, ◌++◌, length, sym, ap, ◌∙◌, subst}
use Rattle.ig_forest_tables.specs.StoredNodes.{RiseIn, nodes_from, StoredNode}
use Rattle.ig_forest_tables.specs.declared.node_rows.Begun.{Begun}
use Rattle.ig_forest_tables.proofs.StoredNodes.{node_more, node_rise}
use Rattle.ig_forest_tables.proofs.node_rows.NodeRows.push.Goals as goal

pub invariant_of-self-2 : goal.invariant_of-self-2
invariant_of-self-2 c =
    let node : Begun = record { row = c.args.row; begin = c.in_ok-begin.begin } in
    subst (λ (z : List Begun). RiseIn c.self.inside.choices.items z) (sym c.in_ok-push.ensures.items)
    (node_rise c.self.inside.choices.items c.self.inside.begun.items node (c.in_ok-begin.ensures.number ∙ ap length c.as_slice.ensures.value) c.self.invariant)

pub returns : goal.returns
returns c =
    let node : Begun = record { row = c.args.row; begin = c.in_ok-begin.begin } in
    let added : StoredNode = record { row = c.args.row; alternatives = [] } in
    ap (λ (z : List Begun). nodes_from c.self.inside.choices.items z) c.in_ok-push.ensures.items ∙
    node_more c.self.inside.choices.items c.self.inside.begun.items node (c.in_ok-begin.ensures.number ∙ ap length c.as_slice.ensures.value) ∙
    ap (λ (z : List StoredNode). z ++ added ∷ []) c.self.view_is
