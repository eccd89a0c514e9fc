-- What visits write of a tree: its parts, from the first one on.
use Rattle.std.specs.Prelude.{ℕ, ◌+◌, List, [], ◌∷◌, ◌++◌, Option, Some, None, slice_get}
use Rattle.ig_text.specs.declared.text.Span.{Span}
use Rattle.ig_forest_tables.specs.Forest as forest
use Rattle.ig_forest_tables.specs.Forest.{Forest}
use Rattle.ig_forest_tables.specs.declared.entry.Choice.{Choice}
use Rattle.ig_forest_tables.specs.declared.entry.Entry.{Entry}
use Rattle.ig_forest_tables.specs.declared.entry.Entry.TheVariants.{Begin, Pass, Take}
use Rattle.ig_heights.specs.Table.{entries_in}
use Rattle.ig_walker.specs.declared.goal.Goal.{Goal}
use Rattle.ig_walker.specs.declared.goal.Goal.TheVariants.{Node, Item, Leaf}
use Rattle.ig_walker.specs.declared.goal.Visit.{Visit}
use Rattle.ig_forest.specs.declared.tree.Part.{Part}

-- the part with so many more children
abbrev pub bumped : ℕ → Part → Part
bumped n part = record { tag = part.tag; span = part.span; children = part.children + n }

-- the last part has one more child
abbrev pub bump_last : List Part → List Part
bump_last [] = []
bump_last (p ∷ []) = bumped 1 p ∷ []
bump_last (p ∷ q ∷ ps) = p ∷ bump_last (q ∷ ps)

-- a child is one more of the last part, whose node is being visited: its whole chain of items comes before its children
abbrev pub by_entry : Option Entry → List Part → List Part
by_entry (Some (Take prev child)) ps = bump_last ps
by_entry (Some (Pass prev)) ps = ps
by_entry (Some Begin) ps = ps
by_entry None ps = ps

-- a node is a part with no child yet
abbrev pub opened : Span → Option Choice → List Part → List Part
opened span None ps = ps
opened span (Some choice) ps = ps ++ record { tag = Some choice.tag; span = span; children = 0 } ∷ []

abbrev pub by_choice : Option forest.Node → ℕ → List Part → List Part
by_choice None i ps = ps
by_choice (Some node) i ps = opened node.span (slice_get node.alternatives i) ps

module _ (f : Forest) where
  -- the parts behind a visit
  abbrev pub written : Goal → ℕ → List Part → List Part
  written (Node v d) i ps = by_choice (slice_get f.nodes v) i ps
  written (Item k d) i ps = by_entry (slice_get (entries_in (slice_get f.items k)) i) ps
  written (Leaf span) i ps = ps ++ record { tag = None; span = span; children = 0 } ∷ []

  abbrev pub emits : List Part → List Visit → List Part
  emits ps [] = ps
  emits ps (v ∷ vs) = emits (written v.goal v.choice ps) vs
