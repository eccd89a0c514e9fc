use Rattle.std.proofs.Common.{arith, sym, subst, ap, ◌∙◌}
use Rattle.ig_forest.specs.CodeNodes.{Opens}
use Rattle.ig_forest_tables.specs.StoredNodes.{with_choice}
use Rattle.ig_forest.specs.CodeDone.{StandsLast}
use Rattle.ig_forest_tables.specs.declared.node_rows.NodeRow.{NodeRow}
use Rattle.ig_forest.proofs.CodeNodePass.{here_within, item_added, item_skips, nodes_count, order_short, stands_last}
use Rattle.ig_forest.proofs.nodes.add_item.Goals as goal

pub bounds-marks-number : goal.bounds-marks-number
bounds-marks-number c =
    here_within c.args.found.now.items.now c.args.found.now.keys.now c.args.found.now.places.now c.args.marks.now c.args.order.now c.requires.order
    c.args.core.now c.requires.complete c.args.place _ c.requires.place

pub returns-then-not-is_complete : goal.returns-then-not-is_complete
returns-then-not-is_complete c =
    item_skips c.args.found.now.items.now c.args.found.now.keys.now c.args.found.now.places.now c.args.marks.now c.args.order.now c.requires.order
    c.args.core.now c.requires.complete c.args.place _ c.requires.place _ _ _ _ (c.is_complete.ensures.no c.if-not-is_complete.true)
    c.in_ok-push.ensures.items c.requires.before

pub row-row-requires : goal.row-row-requires
row-row-requires c =
    c.requires.there _
    (here_within c.args.found.now.items.now c.args.found.now.keys.now c.args.found.now.places.now c.args.marks.now c.args.order.now c.requires.order
    c.args.core.now c.requires.complete c.args.place _ c.requires.place)

pub tag_of-tag-requires : goal.tag_of-tag-requires
tag_of-tag-requires c =
    subst (StandsLast c.args.core.now) (sym c.row-row.ensures)
    (stands_last c.args.found.now.items.now c.args.found.now.keys.now c.args.found.now.places.now c.args.marks.now c.args.order.now c.requires.order
    c.args.core.now c.requires.complete c.args.place _ c.requires.place _ (c.is_complete.ensures.yes c.if-not-is_complete.false))

pub choice_at-requires : goal.choice_at-requires
choice_at-requires c =
    let short =
    order_short c.args.found.now.items.now c.args.found.now.keys.now c.args.found.now.places.now c.args.marks.now c.args.order.now c.requires.order in
    let few = c.requires.few in
    let within = c.requires.place in
    omega (arith, short, few, within)

pub last_number-last-requires-clause-some : goal.last_number-last-requires-clause-some
last_number-last-requires-clause-some c =
    let counted =
    nodes_count c.args.found.now.items.now c.args.found.now.keys.now c.args.found.now.places.now c.args.marks.now c.args.order.now c.requires.order
    c.args.core.now c.requires.complete c.args.place 0 c.requires.place _ c.args.nodes.now.table c.add_node.new.table
    c.push_choice.new.self _ _ c.in_ok-add_node.ensures c.in_ok-push_choice.ensures c.requires.before in
    counted.0

pub last_number-last-requires-clause-few : goal.last_number-last-requires-clause-few
last_number-last-requires-clause-few c =
    let counted =
    nodes_count c.args.found.now.items.now c.args.found.now.keys.now c.args.found.now.places.now c.args.marks.now c.args.order.now c.requires.order
    c.args.core.now c.requires.complete c.args.place 0 c.requires.place _ c.args.nodes.now.table c.add_node.new.table
    c.push_choice.new.self _ _ c.in_ok-add_node.ensures c.in_ok-push_choice.ensures c.requires.before in
    let few = c.requires.few in
    omega (arith, counted.1, few)

pub returns : goal.returns
returns c =
    item_added c.args.found.now.items.now c.args.found.now.keys.now c.args.found.now.places.now c.args.marks.now c.args.order.now c.requires.order
    c.args.core.now c.requires.complete c.args.place _ c.requires.place c.alternatives_are_one.ensures c.row-row.result c.args.nodes.now.table c.add_node.new.table
    c.push_choice.new.self _ c.push-2.new.self.items c.tag_of-tag.result c.last_number-last.result c.row-row.ensures c.tag_of-tag.ensures
    (subst (λ (z : NodeRow). Opens z c.args.nodes.now.table c.add_node.new.table) c.node_of.ensures c.in_ok-add_node.ensures)
    (c.in_ok-push_choice.ensures ∙ ap (with_choice c.add_node.new.table) c.choice_at.ensures) c.in_ok-push-2.ensures.items c.last_number-last.ensures c.requires.before
