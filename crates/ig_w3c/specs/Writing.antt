-- Whether a word has one character.
use Rattle.std.specs.Prelude.{◌≡◌, ℕ, List, [], ◌∷◌, Option, Some, None}
use Rattle.ig_w3c.specs.Text.{literal_text, quoted}

-- the one character of the word, or none where it has another number of them
abbrev pub IsAlone : List ℕ → Option ℕ → Type 0
IsAlone word (Some c) = word ≡ c ∷ []
IsAlone word None = literal_text word ≡ quoted word
