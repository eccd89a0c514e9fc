use Rattle.std.proofs.Common.{[], refl, sym}
use Rattle.ig_text.proofs.Lists.{contains_from_at}
use Rattle.ig_forest_tables.specs.StoredItems.{stored_view}
use Rattle.ig_forest_tables.proofs.Reading.{item_absent, item_read, there_not, read_at, read_none}
use Rattle.ig_forest_tables.proofs.tables.ForestTables.item.Goals as goal

pub returns-in_default : goal.returns-in_default
returns-in_default c =
    item_absent c.self.inside.root c.self.inside.names c.self.inside.lists c.self.inside.nodes c.self.inside.items c.args.self.now c.self.view_is
    c.args.k (sym c.in_default.ensures)

pub unreachable-requires : goal.unreachable-requires
unreachable-requires c =
    there_not c.self.inside.names [] c.in-Some.stored.row.nonterminal
    (c.self.invariant.items_named (stored_view c.in-Some.stored)
    (contains_from_at c.self.inside.items c.args.k (stored_view c.in-Some.stored) (sym c.in-Some.ensures)))
    (sym (read_none c.self.inside.names _ c.in-Some.stored.row.nonterminal c.as_slice.ensures c.in_default-word_at.ensures))

pub unreachable-requires-in_default-get : goal.unreachable-requires-in_default-get
unreachable-requires-in_default-get c =
    there_not c.self.inside.lists [] c.in-Some.stored.row.values
    (c.self.invariant.items_listed (stored_view c.in-Some.stored)
    (contains_from_at c.self.inside.items c.args.k (stored_view c.in-Some.stored) (sym c.in-Some.ensures)))
    c.in_default-get.ensures

pub unreachable-requires-in_default-get-2 : goal.unreachable-requires-in_default-get-2
unreachable-requires-in_default-get-2 c =
    there_not c.self.inside.lists [] c.in-Some.stored.row.env
    (c.self.invariant.envs_listed (stored_view c.in-Some.stored)
    (contains_from_at c.self.inside.items c.args.k (stored_view c.in-Some.stored) (sym c.in-Some.ensures)))
    c.in_default-get-2.ensures

pub returns : goal.returns
returns c =
    item_read c.self.inside.root c.self.inside.names c.self.inside.lists c.self.inside.nodes c.self.inside.items c.args.self.now c.self.view_is
    c.args.k (stored_view c.in-Some.stored) c.in-Some-word_at.name.now c.in-Some-get.values.now c.in-Some-get-2.env.now c.in-Some.stored.entries.now
    (sym c.in-Some.ensures)
    (sym (read_at c.self.inside.names _ c.in-Some.stored.row.nonterminal c.in-Some-word_at.name.now c.as_slice.ensures c.in-Some-word_at.ensures))
    c.in-Some-get.ensures c.in-Some-get-2.ensures refl
