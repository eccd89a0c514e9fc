-- The forest of nodes and item nodes as they are stored: as rows of numbers, which name places in a table of names and in one
-- of lists of values.
use Rattle.std.specs.Prelude.{ℕ, ◌<◌, List, [], map, length, Contains, slice_index_or}
use Rattle.ig_text.specs.Limits.{numbers_end}
use Rattle.ig_expr.specs.declared.value.Value.{Value}
use Rattle.ig_forest_tables.specs.Forest as parts
use Rattle.ig_forest_tables.specs.StoredNodes.{StoredNode}
use Rattle.ig_forest_tables.specs.StoredItems.{StoredItem}

abbrev pub list_at : List (List Value) → ℕ → List Value
list_at lists n = slice_index_or lists n []

abbrev pub name_at : List (List ℕ) → ℕ → List ℕ
name_at names n = slice_index_or names n []

abbrev pub node_by : List (List ℕ) → List (List Value) → StoredNode → parts.Node
node_by names lists n =
    record {
      name = name_at names n.row.nonterminal;
      nonterminal = n.row.nonterminal;
      values = list_at lists n.row.values;
      span = record { begin = n.row.start; end = n.row.end };
      alternatives = n.alternatives;
    }

abbrev pub item_node_by : List (List ℕ) → List (List Value) → StoredItem → parts.ItemNode
item_node_by names lists it =
    record {
      name = name_at names it.row.nonterminal;
      nonterminal = it.row.nonterminal;
      values = list_at lists it.row.values;
      start = it.row.start;
      alternative = it.row.alternative;
      dot = it.row.dot;
      env = list_at lists it.row.env;
      position = it.row.position;
      entries = it.entries;
    }

abbrev pub forest_by : ℕ → List (List ℕ) → List (List Value) → List StoredNode → List StoredItem → parts.Forest
forest_by root names lists nodes items =
    record { root = root; nodes = map (node_by names lists) nodes; items = map (item_node_by names lists) items }

-- what the stored nodes and items name is there, and there are fewer than 2 to the power of 32 of them
pub record FitsTables (names : List (List ℕ)) (lists : List (List Value)) (nodes : List StoredNode)
    (items : List StoredItem) : Type 0 where
  pub nodes_named : (n : StoredNode) → Contains nodes n → n.row.nonterminal < length names
  pub nodes_listed : (n : StoredNode) → Contains nodes n → n.row.values < length lists
  pub items_named : (it : StoredItem) → Contains items it → it.row.nonterminal < length names
  pub items_listed : (it : StoredItem) → Contains items it → it.row.values < length lists
  pub envs_listed : (it : StoredItem) → Contains items it → it.row.env < length lists
  pub few_nodes : length nodes < numbers_end
  pub few_items : length items < numbers_end
