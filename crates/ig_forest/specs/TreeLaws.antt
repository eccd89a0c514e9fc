-- Laws of the trees of reduced forests.
use Rattle.std.specs.Prelude.{ℕ, List}
use Rattle.ig_text.specs.Input.{Input}
use Rattle.ig_text.specs.Tree.{Tree}
use Rattle.ig_item.specs.WellKinded.{IsWellKinded}
use Rattle.ig_item.specs.declared.core_grammar.Nonterminal.{Nonterminal}
use Rattle.ig_forest_tables.specs.Forest.{Forest}
use Rattle.ig_forest_tables.specs.Unfold.{Unfold}
use Rattle.ig_forest.specs.Reduced.{IsReduced}
use Rattle.ig_forest.specs.Flat.{flat}
use Rattle.ig_forest.specs.Tags.{TagsAreNamed}
use Rattle.ig_forest.specs.Cursors.{IsShortCursor}

-- the tags of a tree of the reduced forest name nonterminals of its core grammar
abbrev pub TagsNameNonterminals : Type 0
TagsNameNonterminals =
    (core : List Nonterminal) (text : Input) (f : Forest) (d : ℕ) (cs : List ℕ) (t : Tree) → IsWellKinded core →
    IsReduced core text f → Unfold f d cs t → TagsAreNamed core (flat t)

-- where the forest is a reduced one, the numbers of the cursors of its trees have 32 bits
abbrev pub CursorsAreShort : Forest → Type 0
CursorsAreShort f =
    (core : List Nonterminal) (text : Input) → IsReduced core text f → (d : ℕ) (cs : List ℕ) (t : Tree) →
    Unfold f d cs t → IsShortCursor cs
