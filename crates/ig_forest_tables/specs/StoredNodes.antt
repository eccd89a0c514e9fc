-- Nodes whose alternatives stand side by side in one list, each up to those of the next one.
use Rattle.std.specs.Prelude.{◌≡◌, ◌≤◌, ℕ, zero, suc, List, map, [], ◌∷◌, ◌++◌, length, slice_range}
use Rattle.std.specs.List.Sorted.{IsPermutation, IsSorted}
use Rattle.ig_forest_tables.specs.Orders.{choice_cmp}
use Rattle.ig_forest_tables.specs.declared.entry.Choice.{Choice}
use Rattle.ig_forest_tables.specs.declared.node_rows.Begun.{Begun}
use Rattle.ig_forest_tables.specs.declared.node_rows.Stored.{Stored}
use Rattle.ig_forest_tables.specs.declared.node_rows.NodeRow.{NodeRow}

-- the row of a node, with its alternatives
pub record StoredNode : Type 0 where
  pub row : NodeRow
  pub alternatives : List Choice

abbrev pub stored_view : Stored → StoredNode
stored_view s = record { row = s.row; alternatives = s.alternatives.now }

-- where the alternatives end of a node before these
abbrev pub end_before : List Choice → List Begun → ℕ
end_before choices [] = length choices
end_before choices (next ∷ begun) = next.begin

abbrev pub nodes_from : List Choice → List Begun → List StoredNode
nodes_from choices [] = []
nodes_from choices (node ∷ begun) =
    record { row = node.row; alternatives = slice_range choices node.begin (end_before choices begun) } ∷ nodes_from choices begun

-- the alternatives of each node end behind their beginning
abbrev pub RiseIn : List Choice → List Begun → Type 0
RiseIn choices [] = Unit {0}
RiseIn choices (node ∷ begun) = (node.begin ≤ end_before choices begun) × RiseIn choices begun

-- the last node with one more alternative
abbrev pub with_choice : List StoredNode → Choice → List StoredNode
with_choice [] choice = []
with_choice (node ∷ []) choice = record { row = node.row; alternatives = node.alternatives ++ choice ∷ [] } ∷ []
with_choice (node ∷ next ∷ nodes) choice = node ∷ with_choice (next ∷ nodes) choice

-- where the node of that number begins, or the end of all
abbrev pub begin_at : ℕ → List Begun → ℕ → ℕ
begin_at all [] k = all
begin_at all (node ∷ begun) zero = node.begin
begin_at all (node ∷ begun) (suc k) = begin_at all begun k

-- a node with the alternatives up to there
abbrev pub stored_upto : List Choice → Begun → ℕ → StoredNode
stored_upto choices node end = record { row = node.row; alternatives = slice_range choices node.begin end }

abbrev pub rows_in : List StoredNode → List NodeRow
rows_in nodes = map (λ node. node.row) nodes

-- the node with its alternatives in order
pub record IsPutInOrder (before after : StoredNode) : Type 0 where
  pub row : after.row ≡ before.row
  pub moved : IsPermutation before.alternatives after.alternatives
  pub order : IsSorted choice_cmp after.alternatives
