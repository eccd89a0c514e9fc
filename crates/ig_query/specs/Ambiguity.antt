-- Which nodes of a forest are ambiguous.
use Rattle.std.specs.Prelude.{◌≡◌, ◌↔◌, ◌⊎◌, ℕ, ◌<◌, List, length, Contains, Option, Some, None, slice_get}
use Rattle.std.specs.List.Sorted.{IsStrictlyIncreasing}
use Rattle.ig_forest_tables.specs.Forest.{Forest, Node, ItemNode}
use Rattle.ig_forest_tables.specs.declared.entry.Choice.{Choice}
use Rattle.ig_forest_tables.specs.declared.entry.Entry.{Entry}
use Rattle.ig_forest_tables.specs.declared.entry.Entry.TheVariants.{Begin, Pass, Take}

-- the previous item node of an entry
abbrev pub link : Entry → Option ℕ
link Begin = None
link (Pass prev) = Some prev
link (Take prev child) = Some prev

-- links lead from the item node, in no, one or more steps, to one that has two entries
pub data IsForked (f : Forest) : ℕ → Type 0 where
  here : (k : ℕ) (it : ItemNode) → slice_get f.items k ≡ Some it → 1 < length it.entries → IsForked f k
  behind : (k prev : ℕ) (it : ItemNode) (e : Entry) → slice_get f.items k ≡ Some it → Contains it.entries e →
      link e ≡ Some prev → IsForked f prev → IsForked f k

-- the node has two alternatives, or one whose item is such a one
pub record IsAmbiguousNode (f : Forest) (v : ℕ) : Type 0 where
  pub node : Node
  pub there : slice_get f.nodes v ≡ Some node
  pub ways : (1 < length node.alternatives) ⊎
      ((choice : Choice) × Contains node.alternatives choice × IsForked f choice.item)

-- some node is ambiguous
abbrev pub IsAmbiguous : Forest → Type 0
IsAmbiguous f = (v : ℕ) × IsAmbiguousNode f v

-- exactly the ambiguous nodes, in order
pub record AreAmbiguous (f : Forest) (numbers : List ℕ) : Type 0 where
  pub members : (v : ℕ) → Contains numbers v ↔ IsAmbiguousNode f v
  pub order : IsStrictlyIncreasing numbers
