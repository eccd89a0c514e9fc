-- What `offside` and `align` ask of the columns of positions.
use Rattle.std.specs.Prelude.{◌≡◌, ℕ, ◌<◌, ◌⊎◌, List, Contains}
use Rattle.ig_text.specs.Input.{Input}
use Rattle.ig_text.specs.Lines.{column_of}

-- each exposed token start is i, or in a column greater than that of i
abbrev pub IsOffside : Input → ℕ → List ℕ → Type 0
IsOffside text i starts = (q : ℕ) → Contains starts q → (q ≡ i) ⊎ (column_of text i < column_of text q)

-- the positions at which the items of a list start have one column
abbrev pub AreAligned : Input → List ℕ → Type 0
AreAligned text starts = (p q : ℕ) → Contains starts p → Contains starts q → column_of text p ≡ column_of text q
