-- Whether a pattern matches a text at a place.
use Rattle.std.specs.Prelude.{ℕ, ◌+◌, ◌-◌, nat_le, Bool, false, ◌&&◌, List, length, slice_range, slice_get, Option, Some, None}
use Rattle.ig_text.specs.Input.{Input}
use Rattle.ig_text.specs.Class.{is_in_class}
use Rattle.ig_text.specs.declared.class.Class.{Class}
use Rattle.ig_text.specs.declared.pattern.Pattern.{Pattern}
use Rattle.ig_text.specs.declared.pattern.Pattern.TheVariants.{Literal, OneOf}
use Rattle.ig_text.specs.Words.{is_word}

-- how many characters a match has
abbrev pub width : Pattern → ℕ
width (Literal word) = length word
width (OneOf class) = 1

abbrev pub is_some_of : Class → Option ℕ → Bool
is_some_of class None = false
is_some_of class (Some c) = is_in_class class c

-- whether the pattern matches at p
abbrev pub matches_at : Input → Pattern → ℕ → Bool
matches_at text (Literal word) p =
    nat_le (p + length word) (length text.characters) && is_word (slice_range text.characters p (p + length word)) word
matches_at text (OneOf class) p = is_some_of class (slice_get text.characters p)

-- whether a match of the pattern ends at p
abbrev pub matches_before : Input → Pattern → ℕ → Bool
matches_before text pattern p = nat_le (width pattern) p && matches_at text pattern (p - width pattern)
