-- The options of a goal: an option is the list of goals that are visited next.
use Rattle.std.specs.Prelude.{ℕ, zero, suc, List, [], ◌∷◌, slice_get, map}
use Rattle.ig_forest_tables.specs.Forest.{Forest}
use Rattle.ig_forest_tables.specs.declared.entry.Choice.{Choice}
use Rattle.ig_forest_tables.specs.declared.entry.Entry.{Entry}
use Rattle.ig_forest_tables.specs.declared.entry.Entry.TheVariants.{Begin, Pass, Take}
use Rattle.ig_forest_tables.specs.declared.entry.Child.TheVariants as child
use Rattle.ig_heights.specs.Table.{choices_in, entries_in}
use Rattle.ig_walker.specs.declared.goal.Goal.{Goal}
use Rattle.ig_walker.specs.declared.goal.Goal.TheVariants.{Node, Item, Leaf}

-- behind an alternative is its item, with the depth that is left for its trees
abbrev pub behind_choice : ℕ → Choice → List Goal
behind_choice d choice = Item choice.item d ∷ []

-- behind an entry is the previous item, then the child; both have the same depth left
abbrev pub behind_entry : ℕ → Entry → List Goal
behind_entry d Begin = []
behind_entry d (Pass prev) = Item prev d ∷ []
behind_entry d (Take prev (child.Node v)) = Item prev d ∷ Node v d ∷ []
behind_entry d (Take prev (child.Leaf span)) = Item prev d ∷ Leaf span ∷ []

module _ (f : Forest) where
  -- the alternatives of a node, the entries of an item, and the one option of a leaf
  abbrev pub options : Goal → List (List Goal)
  options (Node v zero) = []
  options (Node v (suc d)) = map (behind_choice d) (choices_in (slice_get f.nodes v))
  options (Item k d) = map (behind_entry d) (entries_in (slice_get f.items k))
  options (Leaf span) = [] ∷ []

  -- the trees of the root, to a depth
  abbrev pub root_goal : ℕ → Goal
  root_goal d = Node f.root d
