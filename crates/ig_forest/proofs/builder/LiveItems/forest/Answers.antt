use Rattle.std.proofs.Common.{sym, ◌∙◌, subst}
use Rattle.ig_forest_tables.specs.Unfold.{IsTrim}
use Rattle.ig_forest.specs.Reduced.{IsReduced}
use Rattle.ig_forest.proofs.CodeLiveItems.{complete_marks, entry_sources, fits_tables, is_reduced, node_within, order_below, order_once, root_node, root_within, there_marks}
use Rattle.ig_forest.proofs.builder.LiveItems.forest.Goals as goal

pub nodes_of-requires-clause-there : goal.nodes_of-requires-clause-there
nodes_of-requires-clause-there c = there_marks c.args.self.now c.requires.live

pub nodes_of-requires-clause-complete : goal.nodes_of-requires-clause-complete
nodes_of-requires-clause-complete c = complete_marks c.args.self.now c.requires.live

pub numbers_of-requires-clause-below : goal.numbers_of-requires-clause-below
numbers_of-requires-clause-below c = order_below c.args.self.now c.requires.live

pub numbers_of-requires-clause-once : goal.numbers_of-requires-clause-once
numbers_of-requires-clause-once c = order_once c.args.self.now c.requires.live

pub item_nodes-requires : goal.item_nodes-requires
item_nodes-requires c =
    entry_sources c.args.self.now c.requires.live c.as_slice.result c.as_slice-2.result c.in_ok-places.places.items
    c.in_ok-table.field-0.numbers.items
    c.as_slice.ensures.value c.as_slice-2.ensures.value c.in_ok-places.ensures.long c.in_ok-places.ensures.numbers c.in_ok-table.field-0.table
    c.in_ok-table.ensures c.stands_before_one.ensures

pub node-root-requires-clause-item : goal.node-root-requires-clause-item
node-root-requires-clause-item c =
    root_within c.args.self.now c.requires.live c.as_slice.result c.as_slice-2.result c.in_ok-places.places.items c.in_ok-table.field-0.numbers.items
    c.as_slice.ensures.value c.as_slice-2.ensures.value c.in_ok-places.ensures.long c.in_ok-places.ensures.numbers c.in_ok-table.field-0.table
    c.in_ok-table.ensures
    c.args.root c.requires.root

pub node-root-requires-clause-number : goal.node-root-requires-clause-number
node-root-requires-clause-number c =
    node_within c.args.self.now c.requires.live c.as_slice.result c.as_slice-2.result c.in_ok-places.places.items c.in_ok-table.field-0.numbers.items
    c.as_slice.ensures.value c.as_slice-2.ensures.value c.in_ok-places.ensures.long c.in_ok-places.ensures.numbers c.in_ok-table.field-0.table
    c.in_ok-table.ensures
    c.args.root c.requires.root

pub of-tables-requires : goal.of-tables-requires
of-tables-requires c =
    let at =
    root_node c.args.self.now c.requires.live c.as_slice.result c.as_slice-2.result c.in_ok-places.places.items c.in_ok-table.field-0.numbers.items
    c.as_slice.ensures.value c.as_slice-2.ensures.value c.in_ok-places.ensures.long c.in_ok-places.ensures.numbers c.in_ok-table.field-0.table
    c.in_ok-table.ensures
    c.args.root c.requires.root c.node-root.result c.node-root.ensures in
    fits_tables c.args.self.now c.requires.live c.as_slice.result c.as_slice-2.result c.in_ok-places.places.items c.in_ok-table.field-0.numbers.items
    c.as_slice.ensures.value c.as_slice-2.ensures.value c.in_ok-places.ensures.long c.in_ok-places.ensures.numbers c.in_ok-table.field-0.table
    c.in_ok-table.ensures
    c.environments_fit.ensures c.nonterminals-nonterminals.ensures.well_kinded c.in_ok-names.names c.in_ok-names.ensures c.in_ok-items.items
    c.in_ok-items.ensures
    c.node-root.result at c.in_ok-lists.lists c.in_ok-lists.ensures

pub of-requires : goal.of-requires
of-requires c =
    let at =
    root_node c.args.self.now c.requires.live c.as_slice.result c.as_slice-2.result c.in_ok-places.places.items c.in_ok-table.field-0.numbers.items
    c.as_slice.ensures.value c.as_slice-2.ensures.value c.in_ok-places.ensures.long c.in_ok-places.ensures.numbers c.in_ok-table.field-0.table
    c.in_ok-table.ensures
    c.args.root c.requires.root c.node-root.result c.node-root.ensures in
    subst IsTrim (sym c.of-tables.ensures)
    (c.reduced_forest_is_trim.ensures c.args.self.now.core.now c.args.self.now.text.now _ c.nonterminals-nonterminals.ensures.well_kinded
    (is_reduced c.args.self.now c.requires.live c.as_slice.result c.as_slice-2.result c.in_ok-places.places.items c.in_ok-table.field-0.numbers.items
    c.as_slice.ensures.value c.as_slice-2.ensures.value c.in_ok-places.ensures.long c.in_ok-places.ensures.numbers c.in_ok-table.field-0.table
    c.in_ok-table.ensures
    c.environments_fit.ensures c.nonterminals-nonterminals.ensures.well_kinded c.in_ok-names.names c.in_ok-names.ensures c.in_ok-items.items
    c.in_ok-items.ensures
    c.node-root.result at c.in_ok-lists.lists c.in_ok-lists.ensures))

pub returns : goal.returns
returns c =
    let at =
    root_node c.args.self.now c.requires.live c.as_slice.result c.as_slice-2.result c.in_ok-places.places.items c.in_ok-table.field-0.numbers.items
    c.as_slice.ensures.value c.as_slice-2.ensures.value c.in_ok-places.ensures.long c.in_ok-places.ensures.numbers c.in_ok-table.field-0.table
    c.in_ok-table.ensures
    c.args.root c.requires.root c.node-root.result c.node-root.ensures in
    subst (IsReduced c.args.self.now.core.now c.args.self.now.text.now) (sym c.of-tables.ensures ∙ sym c.of.ensures)
    (is_reduced c.args.self.now c.requires.live c.as_slice.result c.as_slice-2.result c.in_ok-places.places.items c.in_ok-table.field-0.numbers.items
    c.as_slice.ensures.value c.as_slice-2.ensures.value c.in_ok-places.ensures.long c.in_ok-places.ensures.numbers c.in_ok-table.field-0.table
    c.in_ok-table.ensures
    c.environments_fit.ensures c.nonterminals-nonterminals.ensures.well_kinded c.in_ok-names.names c.in_ok-names.ensures c.in_ok-items.items
    c.in_ok-items.ensures
    c.node-root.result at c.in_ok-lists.lists c.in_ok-lists.ensures)
