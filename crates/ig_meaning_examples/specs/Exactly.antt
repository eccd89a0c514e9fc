-- Which trees a grammar permits, up to a height.
use Rattle.std.specs.Prelude.{◌≡◌, ◌↔◌, ◌⊎◌, ℕ, ◌≤◌, List, [], ◌∷◌}
use Rattle.ig_text.specs.Input.{Input}
use Rattle.ig_text.specs.Tree.{Tree, height}
use Rattle.ig_meaning.specs.Permitted.{Permitted}
use Rattle.ig_grammar.specs.Numbering.{as_written}
use Rattle.ig_grammar.specs.Tabs.{tab_width}
use Rattle.ig_grammar.specs.declared.grammar.Grammar.{Grammar}
use Rattle.ig_grammar.specs.declared.place.Shape.{Shape}

-- the tree is one of these
abbrev pub IsOneOf : List Tree → Tree → Type 0
IsOneOf [] t = ⊥
IsOneOf (u ∷ us) t = (u ≡ t) ⊎ IsOneOf us t

-- of all trees of at most this height the grammar permits exactly these for the text
abbrev pub PermitsExactly : Grammar → List Shape → Input → ℕ → List Tree → Type 0
PermitsExactly g shapes text most trees =
    (t : Tree) → (Permitted g shapes text t × (height t ≤ most)) ↔ IsOneOf trees t

-- the characters, with tabs as wide as the grammar says
abbrev pub input_of : Grammar → List ℕ → Input
input_of g characters = record { characters = characters; tabs = tab_width g.tabs }

-- the same of a grammar in which each declaration stands for itself, for these characters
abbrev pub Permits : Grammar → List ℕ → ℕ → List Tree → Type 0
Permits g characters most trees = PermitsExactly g (as_written g) (input_of g characters) most trees
