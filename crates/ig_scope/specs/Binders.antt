-- Labels and lets with names of the notation, and the room for them.
use Rattle.std.specs.Prelude.{◌≡◌, ℕ, ◌+◌, ◌<◌, List, count_by, Option, Some, None}
use Rattle.ig_grammar.specs.Visible.{Occurrence}
use Rattle.ig_grammar.specs.Condition.{binds_name, AlternativeMeets, TooMany, Variables}
use Rattle.ig_grammar.specs.declared.symbol.Alt.{Alt}
use Rattle.ig_grammar.specs.declared.declaration.Decl.{Decl}

abbrev pub binders : List Occurrence → ℕ
binders os = count_by (λ o. binds_name o.symbol) os

-- what is left of a room after so many; none where there are more
abbrev pub Leaves : ℕ → ℕ → Option ℕ → Type 0
Leaves room n None = room < n
Leaves room n (Some left) = left + n ≡ room

-- an alternative has too many parameters, labels and lets
abbrev pub HasTooMany : Decl → Alt → Type 0
HasTooMany decl a = AlternativeMeets decl a (TooMany Variables)
