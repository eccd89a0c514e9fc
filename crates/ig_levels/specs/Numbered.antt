-- Alternatives, each with the number and the associativity of their level.
use Rattle.std.specs.Prelude.{ℕ, List, map}
use Rattle.ig_grammar.specs.Numbering.{Levelled}
use Rattle.ig_grammar.specs.declared.declaration.Assoc.{Assoc}
use Rattle.ig_grammar.specs.declared.symbol.Alt.{Alt}

-- the alternatives of a level of this number
abbrev pub numbered : ℕ → Assoc → List Alt → List Levelled
numbered n assoc alts = map (λ a. record { alternative = a; level = n; assoc = assoc }) alts
