use Rattle.ig_forest_tables.proofs.StoredItems.{part_within, item_got, item_lacks}
use Rattle.ig_forest_tables.proofs.item_table.ItemTable.get.Goals as goal

pub entries_of-entries-requires : goal.entries_of-entries-requires
entries_of-entries-requires c =
    part_within c.self.inside.entries.items _ c.self.inside.parts.items _ c.args.k c.in-Some.part c.self.invariant
    c.as_slice-2.ensures.value c.as_slice.ensures.value c.in-Some.ensures

pub returns-in_default : goal.returns-in_default
returns-in_default c = item_lacks c.self.inside.entries.items c.self.inside.parts.items _ c.args.k _ c.as_slice.ensures.value c.in_default.ensures c.self.view_is

pub returns : goal.returns
returns c =
    item_got c.self.inside.entries.items _ _ c.self.inside.parts.items _ c.args.k c.in-Some.part _
    c.as_slice-2.ensures.value c.as_slice.ensures.value c.in-Some.ensures c.entries_of-entries.ensures c.self.view_is
