-- The trees that a listing gives, each with its cursor.
use Rattle.std.specs.Prelude.{◌≡◌, ◌⊎◌, ℕ, ◌≤◌, List, length, Contains, Option, Some, None}
use Rattle.std.specs.List.{AllPairs}
use Rattle.ig_text.specs.Tree.{Tree}
use Rattle.ig_forest_tables.specs.Forest.{Forest}
use Rattle.ig_forest_tables.specs.Unfold.{Unfold}
use Rattle.ig_forest.specs.Cursors.{Less}
use Rattle.ig_walker.specs.Listing.{Listing, IsBehind}

-- a tree with its cursor
pub record Listed : Type 0 where
  pub cursor : List ℕ
  pub tree : Tree

-- they are trees of the root to the depth, behind the cursor `from`, where there is one, in the order of their cursors
pub record AreListed (f : Forest) (depth : ℕ) (from : Option (List ℕ)) (trees : List Listed) : Type 0 where
  pub unfolded : (x : Listed) → Contains trees x → Unfold f depth x.cursor x.tree
  pub behind : (x : Listed) → Contains trees x → IsBehind from x.cursor
  pub order : AllPairs (λ x y. Less x.cursor y.cursor) trees

-- of these trees it is one, or comes behind all of them where they are `count`
abbrev pub IsListedOrLater : (count : ℕ) (trees : List Listed) → Listed → Type 0
IsListedOrLater count trees x =
    Contains trees x ⊎ ((length trees ≡ count) × ((y : Listed) → Contains trees y → Less y.cursor x.cursor))

-- the trees of the root to the depth behind the cursor `from`, in the order of their cursors: the first `count` of them,
-- or all where they are fewer
pub record IsListing (f : Forest) (depth : ℕ) (from : Option (List ℕ)) (count : ℕ) (trees : List Listed) : Type 0 where
  pub are : AreListed f depth from trees
  pub few : length trees ≤ count
  pub whole : (x : Listed) → Unfold f depth x.cursor x.tree → IsBehind from x.cursor → IsListedOrLater count trees x

-- the cursor is the last one, or comes before it
abbrev pub IsReached : Option (List ℕ) → List ℕ → Type 0
IsReached None cs = ⊥
IsReached (Some last) cs = (cs ≡ last) ⊎ Less cs last

-- the listing began behind the cursor `from`, and has given these trees
pub record HasGiven (from : Option (List ℕ)) (trees : List Listed) (now : Listing) : Type 0 where
  pub are : AreListed now.forest now.depth from trees
  pub reached : (x : Listed) → Contains trees x → IsReached now.last x.cursor
  pub onward : (cs : List ℕ) → IsBehind now.last cs → IsBehind from cs
  pub whole : (x : Listed) → Unfold now.forest now.depth x.cursor x.tree → IsBehind from x.cursor →
      Contains trees x ⊎ IsBehind now.last x.cursor
