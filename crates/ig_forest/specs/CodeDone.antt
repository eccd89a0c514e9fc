-- What one function promises the next; who reads the theorems need not read this file.
-- Complete items as rows, and the nodes to which they belong with their alternatives.
use Rattle.std.specs.Prelude.{◌≡◌, ◌↔◌, List, length, Contains, Some, slice_get}
use Rattle.std.specs.Ordering.{nat_cmp}
use Rattle.std.specs.declared.cmp.Ordering.{Ordering}
use Rattle.std.specs.List.Sorted.{IsStrictlySortedBy}
use Rattle.ig_text.specs.declared.tag.Tag.{Tag}
use Rattle.ig_item.specs.Core.{IsAlternative}
use Rattle.ig_item.specs.declared.core_grammar.Nonterminal.{Nonterminal}
use Rattle.ig_item.specs.declared.core_grammar.CoreAlt.{CoreAlt}
use Rattle.ig_forest.specs.CodeTables.{node_of, node_row_cmp}
use Rattle.ig_forest_tables.specs.declared.entry.Choice.{Choice}
use Rattle.ig_forest_live.specs.declared.rows.ItemRow.{ItemRow}
use Rattle.ig_forest_tables.specs.declared.node_rows.NodeRow.{NodeRow}

-- the row's item stands behind the last step
pub record StandsLast (core : List Nonterminal) (row : ItemRow) : Type 0 where
  pub nonterminal : Nonterminal
  pub alternative : CoreAlt
  pub has : IsAlternative core row.nonterminal row.alternative nonterminal alternative
  pub last : row.dot ≡ length alternative.steps

-- the row is of a complete item, which belongs to the node
pub record IsDoneRow (core : List Nonterminal) (row : ItemRow) (node : NodeRow) : Type 0 where
  pub last : StandsLast core row
  pub node_is : node_of row ≡ node

-- the nodes are those of the complete items among these, each once, in order
pub record AreNodesOf (core : List Nonterminal) (rows : List ItemRow) (nodes : List NodeRow) : Type 0 where
  pub members : (node : NodeRow) → Contains nodes node ↔ ((row : ItemRow) × Contains rows row × IsDoneRow core row node)
  pub order : IsStrictlySortedBy node_row_cmp nodes

-- the row is of a complete item, with the tag of its alternative
pub record IsTagged (core : List Nonterminal) (row : ItemRow) (tag : Tag) : Type 0 where
  pub last : StandsLast core row
  pub tagged : tag ≡ last.alternative.tag

-- the choice is a complete item of the node, by number, with the tag of its alternative
pub record IsChoiceRow (core : List Nonterminal) (rows : List ItemRow) (node : NodeRow) (choice : Choice) : Type 0 where
  pub row : ItemRow
  pub numbered : slice_get rows choice.item ≡ Some row
  pub node_is : node_of row ≡ node
  pub tag : IsTagged core row choice.tag

-- the alternatives of a node in the order of their items, in which the code finds them
abbrev pub choice_item_cmp : Choice → Choice → Ordering
choice_item_cmp x y = nat_cmp x.item y.item

-- the choices are those of the node, each once, in the order R
pub record HasChoices (R : Choice → Choice → Ordering) (core : List Nonterminal) (rows : List ItemRow) (node : NodeRow)
    (choices : List Choice) : Type 0 where
  pub members : (choice : Choice) → Contains choices choice ↔ IsChoiceRow core rows node choice
  pub order : IsStrictlySortedBy R choices
