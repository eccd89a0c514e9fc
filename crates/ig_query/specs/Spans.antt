-- The spans of the nodes of a declaration in a forest.
use Rattle.std.specs.Prelude.{◌≡◌, ◌↔◌, ℕ, List, Contains, Some, slice_get}
use Rattle.std.specs.List.Sorted.{IsStrictlySortedBy}
use Rattle.std.specs.Ordering.{nat_cmp, ordering_then}
use Rattle.std.specs.declared.cmp.Ordering.{Ordering}
use Rattle.ig_text.specs.declared.tag.Tag.{Tag}
use Rattle.ig_text.specs.declared.tag.Tag.TheVariants.{Rule}
use Rattle.ig_text.specs.declared.text.Span.{Span}
use Rattle.ig_forest_tables.specs.Forest.{Forest, Node}
use Rattle.ig_forest_tables.specs.declared.entry.Choice.{Choice}

-- the tag of an alternative of a declaration
abbrev pub IsRule : Tag → Type 0
IsRule tag = (nonterminal : ℕ) × (alternative : ℕ) × (tag ≡ Rule nonterminal alternative)

-- the node has that name, and all its alternatives are those of a declaration
pub record IsOfDeclaration (name : List ℕ) (node : Node) : Type 0 where
  pub named : node.name ≡ name
  pub rules : (choice : Choice) → Contains node.alternatives choice → IsRule choice.tag

-- such a node of the forest has the span
pub record HasSpan (f : Forest) (name : List ℕ) (span : Span) : Type 0 where
  pub number : ℕ
  pub node : Node
  pub there : slice_get f.nodes number ≡ Some node
  pub of : IsOfDeclaration name node
  pub spans : node.span ≡ span

-- spans by begin and then by end
abbrev pub span_cmp : Span → Span → Ordering
span_cmp x y = ordering_then (nat_cmp x.begin y.begin) (nat_cmp x.end y.end)

-- the spans of all such nodes, in order, each once
pub record AreSpansOf (f : Forest) (name : List ℕ) (spans : List Span) : Type 0 where
  pub members : (span : Span) → Contains spans span ↔ HasSpan f name span
  pub order : IsStrictlySortedBy span_cmp spans
