-- What a walker lists, line by line.
use Rattle.std.specs.Prelude.{◌≡◌, ℕ, List, Option, Some, None, Result, Ok, Err, Vec}
use Rattle.std.specs.declared.alloc.Global.{Global}
use Rattle.ig_text.specs.Tree.{Tree}
use Rattle.ig_item.specs.declared.core_grammar.Nonterminal.{Nonterminal}
use Rattle.ig_forest_tables.specs.Forest.{Forest}
use Rattle.ig_forest_tables.specs.Unfold.{Unfold}
use Rattle.ig_forest.specs.Flat.{flat}
use Rattle.ig_forest.specs.Tags.{TagsAreNamed}
use Rattle.ig_forest.specs.Cursors.{IsShortCursor}
use Rattle.ig_heights.specs.Heights.{IsCyclic, HasNoHigher}
use Rattle.ig_show_trees.specs.TreeText.{cursor_text}
use Rattle.ig_walker.specs.Listing as walker
use Rattle.ig_walker.specs.Listing.{HasTree}
use Rattle.ig_walker.specs.Listed.{Listed, IsListing}
use Rattle.ig_command.specs.Commands.{Listing}
use Rattle.ig_command_answers.specs.Lines.{listing_text}
use Rattle.ig_command_answers.specs.declared.fault.ListFault.{ListFault}
use Rattle.ig_command_answers.specs.declared.fault.ListFault.TheVariants as fault

-- the tags of the forest's trees name nonterminals of the core grammar, and the numbers of their cursors have 32 bits
pub record IsPrintable (core : List Nonterminal) (f : Forest) : Type 0 where
  pub named : (d : ℕ) (cs : List ℕ) (t : Tree) → Unfold f d cs t → TagsAreNamed core (flat t)
  pub short : (d : ℕ) (cs : List ℕ) (t : Tree) → Unfold f d cs t → IsShortCursor cs

-- the text of the first trees that a walker gives from where it stands, up to a count
pub record IsPageText (l : walker.Listing) (count : ℕ) (core : List Nonterminal) (text : List ℕ) : Type 0 where
  pub trees : List Listed
  pub page : IsListing l.forest l.depth l.last count trees
  pub text_is : text ≡ listing_text core trees

-- this depth has the trees up to the depth that is given; without one, all trees
abbrev pub IsDepthFor : Forest → Option ℕ → ℕ → Type 0
IsDepthFor f None d = (IsCyclic f → ⊥) × HasNoHigher f d
IsDepthFor f (Some depth) d = d ≡ depth

-- no depth is given, and the forest has no highest tree
abbrev pub NeedsDepth : Forest → Option ℕ → Type 0
NeedsDepth f depth = (depth ≡ None) × IsCyclic f

-- the cursor of which the word is the text, where there is a word, is that of a tree to the depth
pub data StandsAt (f : Forest) (d : ℕ) : Option (List ℕ) → Option (List ℕ) → Type 0 where
  at_first : StandsAt f d None None
  at_cursor : (word cursor : List ℕ) → word ≡ cursor_text cursor → HasTree f d cursor → StandsAt f d (Some word) (Some cursor)

-- the word is the text of no cursor of a tree to the depth
pub record IsLost (f : Forest) (d : ℕ) (after : Option (List ℕ)) : Type 0 where
  pub word : List ℕ
  pub given : after ≡ Some word
  pub none : (cursor : List ℕ) → HasTree f d cursor → word ≡ cursor_text cursor → ⊥

-- a walker stands there
pub record IsStart (f : Forest) (d : ℕ) (after : Option (List ℕ)) (l : walker.Listing) : Type 0 where
  pub from : Option (List ℕ)
  pub stands : StandsAt f d after from
  pub listing_is : l ≡ record { forest = f; depth = d; last = from }

-- or there is none
abbrev pub Starts : Forest → ℕ → Option (List ℕ) → Result walker.Listing ListFault → Type 0
Starts f d after (Ok l) = IsStart f d after l
Starts f d after (Err fault.DepthNeeded) = ⊥
Starts f d after (Err fault.NoCursor) = IsLost f d after
Starts f d after (Err fault.Memory) = Unit {0}

-- the text of a listing
pub record IsListed (core : List Nonterminal) (f : Forest) (listing : Listing) (text : List ℕ) : Type 0 where
  pub depth : ℕ
  pub for : IsDepthFor f listing.depth depth
  pub from : Option (List ℕ)
  pub stands : StandsAt f depth listing.after from
  pub page : IsPageText (record { forest = f; depth = depth; last = from }) listing.count core text

-- or why there is none
abbrev pub Lists : List Nonterminal → Forest → Listing → Result (Vec ℕ Global) ListFault → Type 0
Lists core f listing (Ok text) = IsListed core f listing text.items
Lists core f listing (Err fault.DepthNeeded) = NeedsDepth f listing.depth
Lists core f listing (Err fault.NoCursor) = (d : ℕ) × IsDepthFor f listing.depth d × IsLost f d listing.after
Lists core f listing (Err fault.Memory) = Unit {0}
