-- Laws of listings.
use Rattle.std.specs.Prelude.{◌≡◌, ◌⊎◌, ℕ, ◌≤◌, List, [], ◌∷◌, ◌++◌, length, Option}
use Rattle.ig_text.specs.Tree.{Tree}
use Rattle.ig_forest_tables.specs.Forest.{Forest}
use Rattle.ig_forest_tables.specs.Unfold.{Unfold}
use Rattle.ig_forest.specs.Flat.{flat}
use Rattle.ig_forest.specs.declared.tree.Part.{Part}
use Rattle.ig_forest.specs.Cursors.{Less}
use Rattle.ig_walker.specs.Listing.{Listing, GivesTree, IsOver}
use Rattle.ig_walker.specs.Listed.{Listed, HasGiven, IsListing}

-- the order of cursors is a strict total order, so a listing in this order gives no cursor twice
pub record CursorsAreInOrder : Type 0 where
  pub none_before_itself : (cs : List ℕ) → Less cs cs → ⊥
  pub onward : (cs ds es : List ℕ) → Less cs ds → Less ds es → Less cs es
  pub total : (cs ds : List ℕ) → (cs ≡ ds) ⊎ (Less cs ds ⊎ Less ds cs)

-- the trees with one cursor are one tree
abbrev pub CursorHasOneTree : Type 0
CursorHasOneTree = (f : Forest) (d : ℕ) (cs : List ℕ) (t u : Tree) → Unfold f d cs t → Unfold f d cs u → t ≡ u

-- so are the trees with the same parts
abbrev pub PartsHaveOneTree : Type 0
PartsHaveOneTree = (t u : Tree) → flat t ≡ flat u → t ≡ u

-- a listing has given no tree where it begins; what it gives next is added; and once it has given `count` trees, or gives
-- no more, they are those of the listing
pub record ListingsGrow : Type 0 where
  pub begins : (l : Listing) → HasGiven l.last [] l
  pub goes_on : (from : Option (List ℕ)) (trees : List Listed) (l after : Listing) (parts : List Part)
      (gives : GivesTree l parts after) → HasGiven from trees l →
      HasGiven from (trees ++ record { cursor = gives.cursor; tree = gives.tree } ∷ []) after
  pub full : (from : Option (List ℕ)) (trees : List Listed) (l : Listing) → HasGiven from trees l →
      IsListing l.forest l.depth from (length trees) trees
  pub ends : (from : Option (List ℕ)) (trees : List Listed) (l after : Listing) (count : ℕ) → HasGiven from trees l →
      IsOver l after → length trees ≤ count → IsListing l.forest l.depth from count trees

-- there is one such listing
abbrev pub ListingIsOne : Type 0
ListingIsOne =
    (f : Forest) (d : ℕ) (from : Option (List ℕ)) (count : ℕ) (xs ys : List Listed) → IsListing f d from count xs →
    IsListing f d from count ys → xs ≡ ys
