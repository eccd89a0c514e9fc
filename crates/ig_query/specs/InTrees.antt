-- Nodes inside trees, and which trees the root of a forest has.
use Rattle.std.specs.Prelude.{◌≡◌, ◌⊎◌, ℕ, List, Contains, Some, slice_get}
use Rattle.ig_text.specs.Tree.{Tree, Trees, Leaf, Node, none, more}
use Rattle.ig_text.specs.declared.tag.Tag.{Tag}
use Rattle.ig_forest_tables.specs.Forest as forest
use Rattle.ig_forest_tables.specs.Forest.{Forest}
use Rattle.ig_forest_tables.specs.Unfold.{Unfold, Unfolds}
use Rattle.ig_forest_tables.specs.declared.entry.Choice.{Choice}

abbrev mutual
  -- the tree has a node with that tag from i to j
  pub HasNode : Tag → ℕ → ℕ → Tree → Type 0
  HasNode tag i j (Leaf a b) = ⊥
  HasNode tag i j (Node other a b children) = ((other ≡ tag) × (a ≡ i) × (b ≡ j)) ⊎ AnyHasNode tag i j children

  -- one of the trees has
  pub AnyHasNode : Tag → ℕ → ℕ → Trees → Type 0
  AnyHasNode tag i j none = ⊥
  AnyHasNode tag i j (more t ts) = HasNode tag i j t ⊎ AnyHasNode tag i j ts

-- some tree of the root, to some depth, has a node with that tag from i to j
pub record TreesHaveNode (f : Forest) (tag : Tag) (i j : ℕ) : Type 0 where
  pub depth : ℕ
  pub tree : Tree
  pub unfolds : Unfolds f depth tree
  pub has : HasNode tag i j tree

-- some node of the forest from i to j has an alternative with that tag
pub record ForestHasNode (f : Forest) (tag : Tag) (i j : ℕ) : Type 0 where
  pub number : ℕ
  pub node : forest.Node
  pub choice : Choice
  pub there : slice_get f.nodes number ≡ Some node
  pub among : Contains node.alternatives choice
  pub tagged : choice.tag ≡ tag
  pub begins : node.span.begin ≡ i
  pub ends : node.span.end ≡ j

-- the root has two different trees, to some depth
pub record HasTwoTrees (f : Forest) : Type 0 where
  pub depth : ℕ
  pub first : Tree
  pub second : Tree
  pub first_unfolds : Unfolds f depth first
  pub second_unfolds : Unfolds f depth second
  pub differ : first ≡ second → ⊥

-- each tree of the root has one cursor, the same one for each depth
abbrev pub TreesHaveOneCursor : Forest → Type 0
TreesHaveOneCursor f = (d e : ℕ) (cs ds : List ℕ) (t : Tree) → Unfold f d cs t → Unfold f e ds t → cs ≡ ds
