-- Item nodes whose entries stand side by side in one list.
use Rattle.std.specs.Prelude.{◌≤◌, List, length, Contains, slice_range}
use Rattle.ig_forest_tables.specs.declared.entry.Entry.{Entry}
use Rattle.ig_forest_live.specs.declared.rows.ItemRow.{ItemRow}
use Rattle.ig_forest_tables.specs.declared.item_table.Part.{Part}
use Rattle.ig_forest_tables.specs.declared.item_table.Stored.{Stored}

-- the row of an item node, with its entries
pub record StoredItem : Type 0 where
  pub row : ItemRow
  pub entries : List Entry

abbrev pub stored_view : Stored → StoredItem
stored_view s = record { row = s.row; entries = s.entries.now }

-- the entries of a part
abbrev pub entries_in : List Entry → Part → List Entry
entries_in entries part = slice_range entries part.begin part.end

abbrev pub item_in : List Entry → Part → StoredItem
item_in entries part = record { row = part.row; entries = entries_in entries part }

-- the part lies within the entries
pub record IsPartOf (entries : List Entry) (part : Part) : Type 0 where
  pub onward : part.begin ≤ part.end
  pub within : part.end ≤ length entries

abbrev pub ArePartsOf : List Entry → List Part → Type 0
ArePartsOf entries parts = (part : Part) → Contains parts part → IsPartOf entries part
