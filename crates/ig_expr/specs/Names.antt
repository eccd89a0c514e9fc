-- Environments: a list of names, and beside it a list with a member for each name.
use Rattle.std.specs.Prelude.{ℕ, List, Option, option_and_then, position, slice_get}
use Rattle.ig_text.specs.Words.{is_word}

-- the first place of the name
abbrev pub place_of : List (List ℕ) → List ℕ → Option ℕ
place_of names name = position (λ n. is_word n name) names

-- what stands beside the first place of the name
abbrev pub look_up : {A : Type 0} → List (List ℕ) → List A → List ℕ → Option A
look_up names members name = option_and_then (slice_get members) (place_of names name)
