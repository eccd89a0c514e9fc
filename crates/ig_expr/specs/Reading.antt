-- What functions read off a text.
use Rattle.std.specs.Prelude.{ℕ, ◌+◌, ◌-◌, ◌*◌, nat_le, Bool, false, ◌&&◌, if◌then◌else◌, List, [], ◌∷◌, length, slice_range, Option, Some, None, option_map, ℤ, pos, negsuc, ◌-ℤ◌}
use Rattle.std.specs.List.{list_all}
use Rattle.ig_text.specs.Input.{Input}
use Rattle.ig_text.specs.Lines.{line_at, column_at}
use Rattle.ig_text.specs.declared.text.Span.{Span}
use Rattle.ig_text.specs.Words.{is_word, is_digit}
use Rattle.ig_expr.specs.Operations.{whole, integer, truth}
use Rattle.ig_expr.specs.declared.value.Value.{Value}
use Rattle.ig_expr.specs.declared.value.Value.TheVariants as value
use Rattle.ig_expr.specs.declared.operator.Function.{Function}
use Rattle.ig_expr.specs.declared.operator.Function.TheVariants.{Begin, End, Size, Column, Line, Number}

-- the characters of a span; none where it isn't in the text
abbrev pub letters_of : Input → Span → Option (List ℕ)
letters_of text span =
    if nat_le span.begin span.end && nat_le span.end (length text.characters) then Some (slice_range text.characters span.begin span.end) else None

-- whether both spans are in the text, and have equal characters
abbrev pub are_equal : Option (List ℕ) → Option (List ℕ) → Bool
are_equal (Some a) (Some b) = is_word a b
are_equal _ _ = false

-- the number that digits spell behind the digits of n
abbrev pub spelled : ℕ → List ℕ → ℕ
spelled n [] = n
spelled n (c ∷ cs) = spelled (10 * n + (c - 48)) cs

-- the number that one or more digits spell, where it fits 64 bits
abbrev pub number_of : Option (List ℕ) → Option ℤ
number_of None = None
number_of (Some []) = None
number_of (Some (c ∷ cs)) = if list_all is_digit (c ∷ cs) then whole (pos (spelled 0 (c ∷ cs))) else None

-- the line of a position; none where it is negative or greater than the length
abbrev pub line_from : Input → ℤ → Option ℤ
line_from text (pos p) = option_map pos (line_at text p)
line_from text (negsuc p) = None

abbrev pub read_span : Input → Function → Span → Option Value
read_span text Begin s = integer (Some (pos s.begin))
read_span text End s = integer (Some (pos s.end))
read_span text Size s = integer (Some (pos s.end -ℤ pos s.begin))
read_span text Number s = integer (number_of (letters_of text s))
read_span text f s = None

abbrev pub read_integer : Input → Function → ℤ → Option Value
read_integer text Column p = integer (column_at text p)
read_integer text Line p = integer (line_from text p)
read_integer text f p = None

-- what a function gives at a value
abbrev pub applied : Input → Function → Value → Option Value
applied text f (value.Int p) = read_integer text f p
applied text f (value.Bool b) = None
applied text f (value.Span s) = read_span text f s

-- whether two spans have equal text
abbrev pub same : Input → Value → Value → Option Value
same text (value.Span s) (value.Span t) = truth (are_equal (letters_of text s) (letters_of text t))
same text a b = None

-- whether the text of a span is the word
abbrev pub spells : Input → List ℕ → Value → Option Value
spells text word (value.Span s) = truth (are_equal (letters_of text s) (Some word))
spells text word a = None
