use Rattle.std.proofs.Common.{[], refl, sym}
use Rattle.ig_text.proofs.Lists.{contains_from_at}
use Rattle.ig_forest_tables.specs.StoredNodes.{stored_view}
use Rattle.ig_forest_tables.proofs.Reading.{node_absent, node_read, there_not, read_at, read_none}
use Rattle.ig_forest_tables.proofs.tables.ForestTables.node.Goals as goal

pub returns-in_default : goal.returns-in_default
returns-in_default c =
    node_absent c.self.inside.root c.self.inside.names c.self.inside.lists c.self.inside.nodes c.self.inside.items c.args.self.now c.self.view_is
    c.args.k (sym c.in_default.ensures)

pub unreachable-requires : goal.unreachable-requires
unreachable-requires c =
    there_not c.self.inside.names [] c.in-Some.stored.row.nonterminal
    (c.self.invariant.nodes_named (stored_view c.in-Some.stored)
    (contains_from_at c.self.inside.nodes c.args.k (stored_view c.in-Some.stored) (sym c.in-Some.ensures)))
    (sym (read_none c.self.inside.names _ c.in-Some.stored.row.nonterminal c.as_slice.ensures c.in_default-word_at.ensures))

pub unreachable-requires-in_default-get : goal.unreachable-requires-in_default-get
unreachable-requires-in_default-get c =
    there_not c.self.inside.lists [] c.in-Some.stored.row.values
    (c.self.invariant.nodes_listed (stored_view c.in-Some.stored)
    (contains_from_at c.self.inside.nodes c.args.k (stored_view c.in-Some.stored) (sym c.in-Some.ensures)))
    c.in_default-get.ensures

pub returns : goal.returns
returns c =
    node_read c.self.inside.root c.self.inside.names c.self.inside.lists c.self.inside.nodes c.self.inside.items c.args.self.now c.self.view_is
    c.args.k (stored_view c.in-Some.stored) c.in-Some-word_at.name.now c.in-Some-get.values.now c.in-Some.stored.alternatives.now
    (sym c.in-Some.ensures)
    (sym (read_at c.self.inside.names _ c.in-Some.stored.row.nonterminal c.in-Some-word_at.name.now c.as_slice.ensures c.in-Some-word_at.ensures))
    c.in-Some-get.ensures refl
