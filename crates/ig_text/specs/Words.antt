-- Words as lists of characters.
use Rattle.std.specs.Prelude.{ℕ, Bool, List, ◌&&◌, nat_eq, nat_le}
use Rattle.std.specs.Cmp.Lexicographic.{pointwise}

-- whether two words are equal
abbrev pub is_word : List ℕ → List ℕ → Bool
is_word = pointwise nat_eq

-- whether the character is a decimal digit
abbrev pub is_digit : ℕ → Bool
is_digit c = nat_le 48 c && nat_le c 57
