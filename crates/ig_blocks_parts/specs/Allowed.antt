-- Which token starts a pair of a column and a block's start allows.
use Rattle.std.specs.Prelude.{◌≡◌, ◌⊎◌, ◌<◌, ◌≤◌, ℕ, zero, max, nat_eq, Bool, false, if◌then◌else◌, List, [], ◌∷◌, Option, Some, None, ℤ, pos, negsuc}
use Rattle.ig_text.specs.Input.{Input}
use Rattle.ig_text.specs.Lines.{column_of}

-- the start of a block as a value: a position, or -1
abbrev pub start_value : Option ℕ → ℤ
start_value None = negsuc zero
start_value (Some p) = pos p

abbrev pub start_column : Input → Option ℕ → ℕ
start_column text None = 0
start_column text (Some p) = column_of text p

-- the start lies at the position, or before it
abbrev pub IsBefore : Option ℕ → ℕ → Type 0
IsBefore None i = 0 ≤ i
IsBefore (Some p) i = p ≤ i

abbrev pub is_start : Option ℕ → ℕ → Bool
is_start None i = false
is_start (Some p) i = nat_eq i p

-- the pair m, f allows a token that starts at q
abbrev pub Allows : Input → ℕ → Option ℕ → ℕ → Type 0
Allows text m f q = (m < column_of text q) × ((f ≡ Some q) ⊎ (start_column text f < column_of text q))

-- the column of the pair of a block that starts at i, inside the pair m, f
abbrev pub outer_column : Input → ℕ → ℕ → Option ℕ → ℕ
outer_column text i m f = if is_start f i then m else max m (start_column text f)

-- the start of the innermost of these blocks, of which the innermost comes first
abbrev pub innermost : List ℕ → Option ℕ
innermost [] = None
innermost (i ∷ outer) = Some i

-- the column of the pair inside these blocks
abbrev pub inner_column : Input → List ℕ → ℕ
inner_column text [] = 0
inner_column text (i ∷ outer) = outer_column text i (inner_column text outer) (innermost outer)

-- each block starts at the position or before it, and where the next one outside starts or behind it
abbrev pub AreAround : List ℕ → ℕ → Type 0
AreAround [] q = Unit {0}
AreAround (i ∷ outer) q = (i ≤ q) × AreAround outer i
