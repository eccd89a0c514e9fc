-- What one function promises the next; who reads the theorems need not read this file.
-- The nodes that are read off the complete items in order.
use Rattle.std.specs.Prelude.{◌≡◌, ◌↔◌, ℕ, ◌-◌, ◌≤◌, List, [], ◌∷◌, ◌++◌, map, take, length, Contains, true, Some, slice_get}
use Rattle.std.specs.declared.cmp.Ordering.{Ordering}
use Rattle.ig_item.specs.declared.core_grammar.Nonterminal.{Nonterminal}
use Rattle.ig_item.specs.declared.items.Item.{Item}
use Rattle.ig_item.specs.declared.items.InstanceKey.{InstanceKey}
use Rattle.ig_forest.specs.CodeTables.{node_of}
use Rattle.ig_forest.specs.CodeDone.{AreNodesOf, StandsLast, HasChoices, choice_item_cmp}
use Rattle.ig_forest_live.specs.Marks.{is_live}
use Rattle.ig_forest_live.specs.Rows.{row_of}
use Rattle.ig_forest_tables.specs.StoredNodes.{rows_in, StoredNode}
use Rattle.ig_forest_tables.specs.declared.entry.Choice.{Choice}
use Rattle.ig_forest_live.specs.declared.found.Found.{Found}
use Rattle.ig_forest_live.specs.declared.mark.Mark.{Mark}
use Rattle.ig_forest_live.specs.declared.mark.Mark.TheVariants.{Complete}
use Rattle.ig_forest_live.specs.declared.rows.ItemRow.{ItemRow}
use Rattle.ig_forest_tables.specs.declared.node_rows.NodeRow.{NodeRow}

-- the mark of a number is `Complete` exactly where it is of a live item that is complete
abbrev pub MarkComplete : List Nonterminal → List Item → List InstanceKey → List ℕ → List Mark → Type 0
MarkComplete core items keys places marks =
    (k : ℕ) → (slice_get marks k ≡ Some Complete) ↔
    ((slice_get (map is_live marks) k ≡ Some true) × StandsLast core (row_of items keys places k))

-- the rows of the items of these numbers
abbrev pub rows_of : List Item → List InstanceKey → List ℕ → List ℕ → List ItemRow
rows_of items keys places order = map (row_of items keys places) order

-- the same, said of the tables of a run
abbrev pub MarkCompleteIn : List Nonterminal → Found → List Mark → Type 0
MarkCompleteIn core found = MarkComplete core found.items.now found.keys.now found.places.now

abbrev pub rows_at : Found → List ℕ → List ItemRow
rows_at found = rows_of found.items.now found.keys.now found.places.now

-- the row of the last node
abbrev pub EndsWith : List StoredNode → NodeRow → Type 0
EndsWith nodes node = slice_get (rows_in nodes) (length nodes - 1) ≡ Some node

-- the last node is that one, or it was added without alternatives
pub data Opens (node : NodeRow) (before after : List StoredNode) : Type 0 where
  same : EndsWith before node → after ≡ before → Opens node before after
  new : (EndsWith before node → ⊥) → after ≡ before ++ record { row = node; alternatives = [] } ∷ [] → Opens node before after

-- the number of a complete item's node
pub record IsNumbered (nodes : List StoredNode) (numbers : List ℕ) (k : ℕ) (row : ItemRow) : Type 0 where
  pub number : ℕ
  pub there : slice_get numbers k ≡ Some number
  pub node : slice_get (rows_in nodes) number ≡ Some (node_of row)

-- the nodes are those of the complete items among these, in order, with their alternatives in the order R; and each place of
-- a complete item has the number of its node
pub record AreNodesWith (R : Choice → Choice → Ordering) (core : List Nonterminal) (rows : List ItemRow)
    (table : List StoredNode) (numbers : List ℕ) : Type 0 where
  pub nodes : AreNodesOf core rows (rows_in table)
  pub choices : (n : StoredNode) → Contains table n → HasChoices R core rows n.row n.alternatives
  pub few : length table ≤ length rows
  pub long : length numbers ≡ length rows
  pub numbered : (k : ℕ) (row : ItemRow) → slice_get rows k ≡ Some row → StandsLast core row → IsNumbered table numbers k row

-- the nodes of the first items in that order, with their alternatives as they were found
abbrev pub NodesUpTo : List Nonterminal → List Item → List InstanceKey → List ℕ → List ℕ → ℕ → List StoredNode → List ℕ → Type 0
NodesUpTo core items keys places order count =
    AreNodesWith choice_item_cmp core (rows_of items keys places (take count order))

abbrev pub NodesUpToIn : List Nonterminal → Found → List ℕ → ℕ → List StoredNode → List ℕ → Type 0
NodesUpToIn core found = NodesUpTo core found.items.now found.keys.now found.places.now
