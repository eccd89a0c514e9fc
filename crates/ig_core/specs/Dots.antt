-- The dots of what the core grammar is made of.
use Rattle.std.specs.Prelude.{◌≡◌, ℕ, ◌+◌, ◌<◌, ◌≤◌, length, sum_by, List, [], ◌∷◌, if◌then◌else◌, Option}
use Rattle.std.specs.Option.{MatchOption}
use Rattle.ig_item.specs.Limits.{most_dots}
use Rattle.ig_grammar.specs.declared.symbol.Alt.{Alt}
use Rattle.ig_grammar.specs.declared.declaration.Level.{Level}
use Rattle.ig_grammar.specs.declared.declaration.Decl.{Decl}
use Rattle.ig_grammar.specs.declared.place.Shape.{Shape}
use Rattle.ig_core.specs.CoreOf.{Shaped, shaped}
use Rattle.ig_pass.specs.Rooted.{is_root}

abbrev pub alt_dots : Alt → ℕ
alt_dots alt = length alt.symbols + 1

abbrev pub level_dots : Level → ℕ
level_dots level = sum_by alt_dots level.alts

abbrev pub decl_dots : Decl → ℕ
decl_dots decl = sum_by level_dots decl.levels

abbrev pub row_dots : Shaped → ℕ
row_dots x = decl_dots x.decl

-- a declaration that doesn't stand for the root
abbrev pub row : Decl → Shape → List Shaped
row decl shape = if is_root shape then [] else shaped decl shape ∷ []

-- the count of so many dots; none exactly where they are more than a core grammar has
abbrev pub IsCount : Option ℕ → ℕ → Type 0
IsCount counted dots = MatchOption counted (most_dots < dots) (λ n. (n ≡ dots) × (n ≤ most_dots))
