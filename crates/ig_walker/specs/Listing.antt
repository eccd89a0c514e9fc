-- The listing of the trees of a forest to a depth, in the order of their cursors.
use Rattle.std.specs.Prelude.{◌≡◌, ◌⊎◌, ℕ, List, Option, Some, None}
use Rattle.ig_text.specs.Tree.{Tree}
use Rattle.ig_forest_tables.specs.Forest.{Forest}
use Rattle.ig_forest_tables.specs.Unfold.{Unfold}
use Rattle.ig_forest.specs.Flat.{flat}
use Rattle.ig_forest.specs.Cursors.{Less}
use Rattle.ig_forest.specs.declared.tree.Part.{Part}

-- how far a listing has come: the cursor of the last tree, where one was given or gone on from
pub record Listing : Type 0 where
  pub forest : Forest
  pub depth : ℕ
  pub last : Option (List ℕ)

-- the cursor comes behind the last one
abbrev pub IsBehind : Option (List ℕ) → List ℕ → Type 0
IsBehind None cs = Unit {0}
IsBehind (Some last) cs = Less last cs

-- the parts are those of the tree with the least cursor behind the last one, and the listing has come to that cursor
pub record GivesTree (l : Listing) (parts : List Part) (after : Listing) : Type 0 where
  pub cursor : List ℕ
  pub tree : Tree
  pub unfolds : Unfold l.forest l.depth cursor tree
  pub flat_is : parts ≡ flat tree
  pub behind : IsBehind l.last cursor
  pub least : (ds : List ℕ) (t : Tree) → Unfold l.forest l.depth ds t → IsBehind l.last ds →
      (ds ≡ cursor) ⊎ Less cursor ds
  pub after_is : after ≡ record { forest = l.forest; depth = l.depth; last = Some cursor }

-- no tree has a cursor behind the last one, and the listing is as before
pub record IsOver (l after : Listing) : Type 0 where
  pub over : (cs : List ℕ) (t : Tree) → Unfold l.forest l.depth cs t → IsBehind l.last cs → ⊥
  pub after_is : after ≡ l

-- what a listing gives next
abbrev pub Gives : Listing → Option (List Part) → Listing → Type 0
Gives l None after = IsOver l after
Gives l (Some parts) after = GivesTree l parts after

-- some tree of the root has that cursor, to the depth
abbrev pub HasTree : Forest → ℕ → List ℕ → Type 0
HasTree f d cs = (t : Tree) × Unfold f d cs t

abbrev pub HasNoTree : Forest → ℕ → List ℕ → Type 0
HasNoTree f d cs = (t : Tree) → Unfold f d cs t → ⊥
