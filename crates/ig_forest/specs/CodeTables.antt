-- What one function promises the next; who reads the theorems need not read this file.
-- The tables from which a forest is made: items and nodes as rows of numbers, over lists of values.
use Rattle.std.specs.Prelude.{◌≡◌, ◌<◌, List, length, Contains}
use Rattle.std.specs.List.Sorted.{IsStrictlySortedBy}
use Rattle.std.specs.Ordering.{nat_cmp, ordering_then}
use Rattle.std.specs.declared.cmp.Ordering.{Ordering}
use Rattle.ig_expr.specs.declared.value.Value.{Value}
use Rattle.ig_item.specs.Items.{Item}
use Rattle.ig_item.specs.Gives.{NodeKey}
use Rattle.ig_forest_live.specs.Rows.{row_cmp}
use Rattle.ig_forest_live.specs.declared.rows.ItemRow.{ItemRow}
use Rattle.ig_forest_tables.specs.Tables.{list_at}
use Rattle.ig_forest_tables.specs.declared.node_rows.NodeRow.{NodeRow}

-- the item of a row
abbrev pub item_by : List (List Value) → ItemRow → Item
item_by lists row =
    record {
      instance =
          record { nonterminal = row.nonterminal; values = list_at lists row.values; start = row.start };
      alternative = row.alternative;
      dot = row.dot;
      env = list_at lists row.env;
      position = row.position;
    }

-- the key of a row's node
abbrev pub key_by : List (List Value) → NodeRow → NodeKey
key_by lists row =
    record {
      instance =
          record { nonterminal = row.nonterminal; values = list_at lists row.values; start = row.start };
      end = row.end;
    }

-- the order of the rows of nodes, field by field
abbrev pub node_row_cmp : NodeRow → NodeRow → Ordering
node_row_cmp x y =
    ordering_then (nat_cmp x.start y.start)
    (ordering_then (nat_cmp x.end y.end)
    (ordering_then (nat_cmp x.nonterminal y.nonterminal) (nat_cmp x.values y.values)))

-- the lists that the row names are there
pub record RowFits (lists : List (List Value)) (row : ItemRow) : Type 0 where
  pub values : row.values < length lists
  pub env : row.env < length lists

-- the rows are those of the items with P, each once, in order
pub record AreRows (P : Item → Type 0) (lists : List (List Value)) (rows : List ItemRow) : Type 0 where
  pub fit : (row : ItemRow) → Contains rows row → RowFits lists row
  pub sound : (row : ItemRow) → Contains rows row → P (item_by lists row)
  pub complete : (x : Item) → P x → (row : ItemRow) × Contains rows row × (item_by lists row ≡ x)
  pub order : IsStrictlySortedBy row_cmp rows

-- the node of an item, once it is complete
abbrev pub node_of : ItemRow → NodeRow
node_of row = record { start = row.start; end = row.position; nonterminal = row.nonterminal; values = row.values }
