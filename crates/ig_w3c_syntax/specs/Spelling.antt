-- How each token of the W3C notation is spelled, and which token stands first in a text.
use Rattle.std.specs.Prelude.{◌≡◌, ℕ, ◌≤◌, ◌+◌, ◌-◌, ◌*◌, nat_le, Bool, true, false, not, ◌&&◌, ◌||◌, List, [], ◌∷◌, ◌++◌, drop, Option, Some, None, ◌==◌, if◌then◌else◌}
use Rattle.std.specs.Map.{lookup}
use Rattle.std.specs.List.{list_all}
use Rattle.unicode_ident.specs.Ident.{is_xid_continue}
use Rattle.ig_text.specs.Ranges.{normal_form}
use Rattle.ig_text.specs.declared.class.Class.TheVariants.{Ranges}
use Rattle.ig_text.specs.Words.{is_digit}
use Rattle.ig_grammar.specs.Name.{is_name}
use Rattle.ig_notation_syntax.specs.Spelling.{is_one_of, begins, blanks}
use Rattle.ig_w3c_syntax.specs.Token as token
use Rattle.ig_w3c_syntax.specs.Token.{Token, Head, Name, Text, Code, OneOf}

-- the longest front of such characters
abbrev pub run : (ℕ → Bool) → List ℕ → List ℕ
run p [] = []
run p (c ∷ cs) = if p c then c ∷ run p cs else []

-- what stands behind that front
abbrev pub past : (ℕ → Bool) → List ℕ → List ℕ
past p [] = []
past p (c ∷ cs) = if p c then past p cs else c ∷ cs

-- what stands behind the next `*/`
abbrev pub behind_comment : List ℕ → Option (List ℕ)
behind_comment [] = None
behind_comment (c ∷ cs) = if (c == 42) && begins (λ d. d == 47) cs then Some (drop 1 cs) else behind_comment cs

-- the text is a separator and then the rest: a blank, or a comment from `/*` to the next `*/`
pub data IsSeparator : List ℕ → List ℕ → Type 0 where
  blank : (c : ℕ) (rest : List ℕ) → is_one_of blanks c ≡ true → IsSeparator (c ∷ rest) rest
  comment : (inside rest : List ℕ) → behind_comment inside ≡ Some rest → IsSeparator (47 ∷ 42 ∷ inside) rest

-- the text is any number of separators and then the rest
pub data AreSeparators : List ℕ → List ℕ → Type 0 where
  no_separator : (text : List ℕ) → AreSeparators text text
  next_separator : (text more rest : List ℕ) → IsSeparator text more → AreSeparators more rest → AreSeparators text rest

-- the hexadecimal digits, and the number that digits spell behind n
abbrev pub is_hexadecimal : ℕ → Bool
is_hexadecimal c = is_digit c || (nat_le 65 c && nat_le c 70) || (nat_le 97 c && nat_le c 102)

abbrev pub digit_value : ℕ → ℕ
digit_value c = if is_digit c then c - 48 else (if nat_le c 70 then c - 55 else c - 87)

abbrev pub hexadecimal : ℕ → List ℕ → ℕ
hexadecimal n [] = n
hexadecimal n (c ∷ cs) = hexadecimal (16 * n + digit_value c) cs

-- a number of a character is at most 10FFFF, and no surrogate
abbrev pub is_character : ℕ → Bool
is_character n = nat_le n 1114111 && not (nat_le 55296 n && nat_le n 57343)

-- `#x` and a hexadecimal digit stand first
abbrev pub begins_code : List ℕ → Bool
begins_code (a ∷ b ∷ cs) = (a == 35) && ((b == 120) && begins is_hexadecimal cs)
begins_code cs = false

abbrev pub character_of : ℕ → List ℕ → Option (ℕ × List ℕ)
character_of n rest = if is_character n then Some (n, rest) else None

-- the character that a code names, and what stands behind all its digits
abbrev pub code : List ℕ → Option (ℕ × List ℕ)
code text =
    if begins_code text then character_of (hexadecimal 0 (run is_hexadecimal (drop 2 text))) (past is_hexadecimal (drop 2 text)) else None

-- a character that stands for itself in a set
abbrev pub bare : List ℕ → Option (ℕ × List ℕ)
bare [] = None
bare (c ∷ cs) = if is_one_of (93 ∷ 10 ∷ []) c then None else Some (c, cs)

-- an element of a set, and what stands behind it: a code, or where none begins a character
abbrev pub element : List ℕ → Option (ℕ × List ℕ)
element text = if begins_code text then code text else bare text

-- a `-` stands first, and no `]` directly behind it
abbrev pub joins : List ℕ → Bool
joins [] = false
joins (c ∷ cs) = (c == 45) && not (begins (λ d. d == 93) cs)

-- the text is a part of a set and then the rest: an element alone, or a range up to the next element
pub data IsPart : List ℕ → ℕ × ℕ → List ℕ → Type 0 where
  alone : (text rest : List ℕ) (a : ℕ) → element text ≡ Some (a, rest) → joins rest ≡ false → IsPart text (a, a) rest
  range : (text more rest : List ℕ) (a b : ℕ) → element text ≡ Some (a, more) → joins more ≡ true →
      element (drop 1 more) ≡ Some (b, rest) → a ≤ b → IsPart text (a, b) rest

-- the text is the parts of a set, the `]` behind them and then the rest
pub data AreParts : List ℕ → List (ℕ × ℕ) → List ℕ → Type 0 where
  no_part : (rest : List ℕ) → AreParts (93 ∷ rest) [] rest
  next_part : (text more rest : List ℕ) (p : ℕ × ℕ) (ps : List (ℕ × ℕ)) → IsPart text p more → AreParts more ps rest → AreParts text (p ∷ ps) rest

-- a string stands between two `"` or two `'`, and has neither its quote nor LF inside
abbrev pub quotes : List ℕ
quotes = 34 ∷ 39 ∷ []

abbrev pub is_inside : ℕ → ℕ → Bool
is_inside quote c = not (is_one_of (quote ∷ 10 ∷ []) c)

abbrev pub signs : List (ℕ × Token)
signs =
    (124, token.Bar) ∷ (40, token.Open) ∷ (41, token.Close) ∷ (63, token.Question) ∷ (42, token.Star) ∷ (43, token.Plus) ∷
    (45, token.Minus) ∷ []

-- the text is this token and then the rest
pub data StandsFirst : List ℕ → Token → List ℕ → Type 0 where
  -- no character behind a name could go on with it; a name with `::=` behind it, with separators between or without, is a head
  name : (text cs rest : List ℕ) → is_name cs ≡ true → begins is_xid_continue rest ≡ false → text ≡ cs ++ rest →
      StandsFirst text (Name cs) rest
  head : (text cs behind rest : List ℕ) → is_name cs ≡ true → begins is_xid_continue behind ≡ false → text ≡ cs ++ behind →
      AreSeparators behind (58 ∷ 58 ∷ 61 ∷ rest) → StandsFirst text (Head cs) rest
  string : (quote c : ℕ) (cs inside rest : List ℕ) → is_one_of quotes quote ≡ true → list_all (is_inside quote) (c ∷ cs) ≡ true →
      inside ≡ (c ∷ cs) ++ quote ∷ rest → StandsFirst (quote ∷ inside) (Text (c ∷ cs)) rest
  character : (text rest : List ℕ) (c : ℕ) → code text ≡ Some (c, rest) → StandsFirst text (Code c) rest
  set : (inside rest : List ℕ) (p : ℕ × ℕ) (ps : List (ℕ × ℕ)) → begins (λ c. c == 94) inside ≡ false → AreParts inside (p ∷ ps) rest →
      StandsFirst (91 ∷ inside) (OneOf (Ranges false (normal_form (p ∷ ps)))) rest
  other_set : (inside rest : List ℕ) (p : ℕ × ℕ) (ps : List (ℕ × ℕ)) → AreParts inside (p ∷ ps) rest →
      StandsFirst (91 ∷ 94 ∷ inside) (OneOf (Ranges true (normal_form (p ∷ ps)))) rest
  sign : (c : ℕ) (t : Token) (rest : List ℕ) → lookup (λ d. d == c) signs ≡ Some t → StandsFirst (c ∷ rest) t rest
