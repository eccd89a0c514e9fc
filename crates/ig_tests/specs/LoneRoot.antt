-- The core grammar of a root of one terminal.
use Rattle.std.specs.Prelude.{◌≡◌, ℕ, List, [], ◌∷◌, None}
use Rattle.ig_text.specs.declared.pattern.Pattern.{Pattern}
use Rattle.ig_text.specs.declared.tag.Tag.TheVariants.{Root}
use Rattle.ig_item.specs.Step.{Step, Term}
use Rattle.ig_item.specs.declared.core_grammar.Nonterminal.{Nonterminal}
use Rattle.ig_item.specs.declared.core_grammar.CoreAlt.{CoreAlt}

-- the step is a terminal without a label
abbrev pub IsUnlabelled : Step → Type 0
IsUnlabelled step = (what : Pattern) × (excluded : List Pattern) × (step ≡ Term what None excluded)

-- the root's alternative of that step
abbrev pub lone_alternative : Step → CoreAlt
lone_alternative step = record { tag = Root; steps = step ∷ [] }

-- a root of that name, of that step
abbrev pub lone_root : List ℕ → Step → Nonterminal
lone_root name step = record { name = name; params = []; kinds = []; alternatives = lone_alternative step ∷ [] }
