-- The listing of the trees that a grammar permits for a text, in their order, with the cursors that they have in a forest.
use Rattle.std.specs.Prelude.{◌≡◌, ◌⊎◌, ℕ, ◌≤◌, List, Contains, Option, Some, None, length}
use Rattle.std.specs.List.{AllPairs}
use Rattle.ig_text.specs.Input.{Input}
use Rattle.ig_text.specs.Tree.{Tree, height}
use Rattle.ig_grammar.specs.Checked.{CheckedGrammar}
use Rattle.ig_meaning.specs.Order.{Precedes}
use Rattle.ig_meaning.specs.Permitted.{Permitted}
use Rattle.ig_forest_tables.specs.Forest.{Forest}
use Rattle.ig_forest_tables.specs.Unfold.{Unfold}
use Rattle.ig_parse.specs.Laws.{HasNoHighest}
use Rattle.ig_show_trees.specs.TreeText.{cursor_text}
use Rattle.ig_walker.specs.Listed.{Listed}

-- the tree is at most so high; without a depth each tree is
abbrev pub IsWithin : Option ℕ → Tree → Type 0
IsWithin None t = Unit {0}
IsWithin (Some depth) t = height t ≤ depth

module _ (c : CheckedGrammar) (text : Input) where
  -- a depth is given, or the permitted trees have a highest one
  abbrev pub IsBounded : Option ℕ → Type 0
  IsBounded None = HasNoHighest c text → ⊥
  IsBounded (Some depth) = Unit {0}

  -- the first tree stands before the second in the order of permitted trees
  abbrev pub StandsBefore : Tree → Tree → Type 0
  StandsBefore t u = Precedes c.grammar c.shapes text t u

  -- the tree stands behind the last one
  abbrev pub StandsBehind : Option Tree → Tree → Type 0
  StandsBehind None t = Unit {0}
  StandsBehind (Some last) t = StandsBefore last t

  -- of these trees it is one, or stands behind all of them where they are `count`
  abbrev pub IsListedOrBehind : (count : ℕ) (trees : List Listed) → Listed → Type 0
  IsListedOrBehind count trees x =
      Contains trees x ⊎ ((length trees ≡ count) × ((y : Listed) → Contains trees y → StandsBefore y.tree x.tree))

  module _ (f : Forest) (depth : Option ℕ) where
    -- the tree is permitted, at most so high as the depth says, and has the cursor in the forest
    pub record IsEligible (x : Listed) : Type 0 where
      pub permitted : Permitted c.grammar c.shapes text x.tree
      pub within : IsWithin depth x.tree
      pub placed : (d : ℕ) × Unfold f d x.cursor x.tree

    -- the word is the text of the cursor of such a tree
    pub record IsCursor (word : List ℕ) (x : Listed) : Type 0 where
      pub eligible : IsEligible x
      pub text_is : word ≡ cursor_text x.cursor

    -- it is the text of no such cursor
    abbrev pub IsNoCursor : List ℕ → Type 0
    IsNoCursor word = (x : Listed) → IsCursor word x → ⊥

    -- where a listing begins: at the first tree, or behind that of whose cursor the word is the text
    pub data Begins : Option (List ℕ) → Option Tree → Type 0 where
      at_first : Begins None None
      at_cursor : (word cursor : List ℕ) (t : Tree) → IsCursor word (record { cursor = cursor; tree = t }) →
          Begins (Some word) (Some t)

    -- such trees behind the last one, in the order of permitted trees: the first `count` of them, or all where they are
    -- fewer
    pub record IsTreeListing (last : Option Tree) (count : ℕ) (trees : List Listed) : Type 0 where
      pub eligible : (x : Listed) → Contains trees x → IsEligible x
      pub behind : (x : Listed) → Contains trees x → StandsBehind last x.tree
      pub order : AllPairs (λ x y. StandsBefore x.tree y.tree) trees
      pub few : length trees ≤ count
      pub whole : (x : Listed) → IsEligible x → StandsBehind last x.tree → IsListedOrBehind count trees x
