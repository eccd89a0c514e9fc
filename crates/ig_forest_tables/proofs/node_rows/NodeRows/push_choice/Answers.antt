use Rattle.std.proofs.Common.{List, sym, ap, ◌∙◌, subst}
use Rattle.ig_forest_tables.specs.StoredNodes.{RiseIn, nodes_from, with_choice, StoredNode}
use Rattle.ig_forest_tables.specs.declared.entry.Choice.{Choice}
use Rattle.ig_forest_tables.proofs.StoredNodes.{choice_more, choice_rise}
use Rattle.ig_forest_tables.proofs.node_rows.NodeRows.push_choice.Goals as goal

pub invariant_of-self-2 : goal.invariant_of-self-2
invariant_of-self-2 c =
    subst (λ (z : List Choice). RiseIn z c.self.inside.begun.items) (sym c.in_ok-push.ensures.items)
    (choice_rise c.self.inside.choices.items c.args.choice c.self.inside.begun.items c.self.invariant)

pub returns : goal.returns
returns c =
    ap (λ (z : List Choice). nodes_from z c.self.inside.begun.items) c.in_ok-push.ensures.items ∙
    choice_more c.self.inside.choices.items c.args.choice c.self.inside.begun.items c.self.invariant ∙
    ap (λ (z : List StoredNode). with_choice z c.args.choice) c.self.view_is
