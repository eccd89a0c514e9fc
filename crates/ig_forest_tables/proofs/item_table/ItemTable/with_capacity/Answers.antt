use Rattle.ig_forest_tables.proofs.StoredItems.{no_parts, no_items}
use Rattle.ig_forest_tables.proofs.item_table.ItemTable.with_capacity.Goals as goal

pub invariant_of-result : goal.invariant_of-result
invariant_of-result c = no_parts c.in_ok-entries.entries.items c.in_ok-parts.parts.items c.in_ok-parts.ensures.items

pub returns : goal.returns
returns c = no_items c.in_ok-entries.entries.items c.in_ok-parts.parts.items c.in_ok-parts.ensures.items
