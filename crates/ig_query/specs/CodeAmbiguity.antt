-- What the functions that look for ambiguous nodes promise to each other.
use Rattle.std.specs.Prelude.{◌≡◌, ◌↔◌, ◌⊎◌, ℕ, ◌<◌, List, Bool, true, IsTrue, length, Contains, Option, Some, None, slice_get}
use Rattle.std.specs.List.Sorted.{IsStrictlyIncreasing}
use Rattle.ig_forest_tables.specs.Forest.{Forest, Node, ItemNode}
use Rattle.ig_forest_tables.specs.declared.entry.Choice.{Choice}
use Rattle.ig_forest_tables.specs.declared.entry.Entry.{Entry}
use Rattle.ig_query.specs.Ambiguity.{IsForked, link}

-- the marks tell of the first n item nodes whether links lead from them to one with two entries
pub record AreMarks (f : Forest) (n : ℕ) (marks : List Bool) : Type 0 where
  pub number : length marks ≡ n
  pub each : (k : ℕ) (mark : Bool) → slice_get marks k ≡ Some mark → IsTrue mark ↔ IsForked f k

-- the number is there and has a mark
abbrev pub IsMarked : Option ℕ → List Bool → Type 0
IsMarked None marks = ⊥
IsMarked (Some k) marks = slice_get marks k ≡ Some true

-- there are two entries, or one that links to a mark
abbrev pub LinksToMark : List Entry → List Bool → Type 0
LinksToMark entries marks = (1 < length entries) ⊎ ((e : Entry) × Contains entries e × IsMarked (link e) marks)

-- there are two alternatives, or one whose item node has a mark
abbrev pub LeadsToMark : List Choice → List Bool → Type 0
LeadsToMark choices marks =
    (1 < length choices) ⊎ ((choice : Choice) × Contains choices choice × (slice_get marks choice.item ≡ Some true))

-- the node of that number leads to a mark
pub record IsNumber (f : Forest) (marks : List Bool) (n v : ℕ) : Type 0 where
  pub node : Node
  pub below : v < n
  pub there : slice_get f.nodes v ≡ Some node
  pub leads : LeadsToMark node.alternatives marks

-- the numbers are those of the first n nodes that lead to a mark
pub record AreNumbers (f : Forest) (marks : List Bool) (n : ℕ) (numbers : List ℕ) : Type 0 where
  pub members : (v : ℕ) → Contains numbers v ↔ IsNumber f marks n v
  pub order : IsStrictlyIncreasing numbers

-- some node has two alternatives
pub record HasChoice (f : Forest) : Type 0 where
  pub number : ℕ
  pub node : Node
  pub there : slice_get f.nodes number ≡ Some node
  pub two : 1 < length node.alternatives

-- some item node has two entries
pub record HasFork (f : Forest) : Type 0 where
  pub number : ℕ
  pub item : ItemNode
  pub there : slice_get f.items number ≡ Some item
  pub two : 1 < length item.entries
