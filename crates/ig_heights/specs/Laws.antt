-- Laws of heights.
use Rattle.std.specs.Prelude.{◌≡◌, ℕ, ◌≤◌, List, length, false}
use Rattle.ig_text.specs.Tree.{Tree, Trees, height, greatest_height}
use Rattle.ig_forest_tables.specs.Forest.{Forest}
use Rattle.ig_forest_tables.specs.Unfold.{OfNode, OfItem, Unfold}
use Rattle.ig_heights.specs.Heights.{Heights, AreHeights, IsCyclic, HasNoHigher}

-- a depth and each greater one have the trees that are no higher, with the same cursors
pub record HasLowTrees (f : Forest) : Type 0 where
  pub low : (v d : ℕ) (cs : List ℕ) (t : Tree) → OfNode f v d cs t → height t ≤ d
  pub at_height : (v d e : ℕ) (cs : List ℕ) (t : Tree) → OfNode f v d cs t → height t ≤ e → OfNode f v e cs t
  pub low_list : (k d : ℕ) (cs : List ℕ) (ts : Trees) → OfItem f k d cs ts → greatest_height ts ≤ d
  pub list_at_height : (k d e : ℕ) (cs : List ℕ) (ts : Trees) → OfItem f k d cs ts → greatest_height ts ≤ e →
      OfItem f k e cs ts

abbrev pub DepthsAreHeights : Type 0
DepthsAreHeights = (f : Forest) → HasLowTrees f

-- where the root has a highest tree, none is higher than the number of nodes
abbrev pub NoneAboveNodes : Type 0
NoneAboveNodes =
    (f : Forest) (heights : Heights) → AreHeights f heights → (IsCyclic f → ⊥) → HasNoHigher f (length f.nodes)

-- there each tree of the root, with its cursor, is among those to the depth of the number of nodes
abbrev pub TreesAreNoHigherThanNodes : Type 0
TreesAreNoHigherThanNodes =
    (f : Forest) (heights : Heights) → AreHeights f heights → heights.cyclic ≡ false →
    (d : ℕ) (cs : List ℕ) (t : Tree) → Unfold f d cs t → (height t ≤ length f.nodes) × Unfold f (length f.nodes) cs t
