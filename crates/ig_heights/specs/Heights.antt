-- The least heights of the trees of a forest, and forests whose root has no highest tree.
use Rattle.std.specs.Prelude.{◌≡◌, ◌↔◌, ℕ, ◌<◌, ◌≤◌, List, Bool, false, IsTrue, Some, length, slice_get}
use Rattle.ig_text.specs.Tree.{Tree, Trees, height, greatest_height}
use Rattle.ig_forest_tables.specs.Forest.{Forest}
use Rattle.ig_forest_tables.specs.Unfold.{OfNode, OfItem, Unfold}

-- some tree of the node has that height, and unfolds to that depth; no tree is lower, and no smaller depth has one
pub record IsLeastOfNode (f : Forest) (v n : ℕ) : Type 0 where
  pub cursor : List ℕ
  pub tree : Tree
  pub attained : OfNode f v n cursor tree
  pub high : height tree ≡ n
  pub least : (d : ℕ) (cs : List ℕ) (t : Tree) → OfNode f v d cs t → n ≤ d
  pub none_lower : (d : ℕ) (cs : List ℕ) (t : Tree) → OfNode f v d cs t → n ≤ height t

-- the same of the lists of trees of an item node, where the highest tree of a list counts
pub record IsLeastOfItem (f : Forest) (k n : ℕ) : Type 0 where
  pub cursor : List ℕ
  pub trees : Trees
  pub attained : OfItem f k n cursor trees
  pub high : greatest_height trees ≡ n
  pub least : (d : ℕ) (cs : List ℕ) (ts : Trees) → OfItem f k d cs ts → n ≤ d
  pub none_lower : (d : ℕ) (cs : List ℕ) (ts : Trees) → OfItem f k d cs ts → n ≤ greatest_height ts

-- the node has a tree that is higher
abbrev pub HasHigher : Forest → ℕ → ℕ → Type 0
HasHigher f v h = (d : ℕ) × (cs : List ℕ) × (t : Tree) × OfNode f v d cs t × (h < height t)

-- for each number the root has a higher tree
abbrev pub IsCyclic : Forest → Type 0
IsCyclic f = (h : ℕ) → HasHigher f f.root h

-- no tree of the root is higher
abbrev pub HasNoHigher : Forest → ℕ → Type 0
HasNoHigher f h = (d : ℕ) (cs : List ℕ) (t : Tree) → Unfold f d cs t → height t ≤ h

-- the least heights of nodes and item nodes, and whether the root has no highest tree
pub record Heights : Type 0 where
  pub nodes : List ℕ
  pub items : List ℕ
  pub cyclic : Bool

-- the heights are those of the forest
pub record AreHeights (f : Forest) (heights : Heights) : Type 0 where
  pub nodes : length heights.nodes ≡ length f.nodes
  pub items : length heights.items ≡ length f.items
  pub node : (v n : ℕ) → slice_get heights.nodes v ≡ Some n → IsLeastOfNode f v n
  pub item : (k n : ℕ) → slice_get heights.items k ≡ Some n → IsLeastOfItem f k n
  pub cyclic : IsTrue heights.cyclic ↔ IsCyclic f
  pub bounded : heights.cyclic ≡ false → HasNoHigher f (length f.nodes)
