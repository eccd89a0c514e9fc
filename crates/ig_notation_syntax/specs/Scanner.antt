-- What a scanner finds at the front of a text, by its first characters.
use Rattle.std.specs.Prelude.{ℕ, Bool, true, false, not, ◌&&◌, nat_le, List, [], ◌∷◌, take, drop, Option, Some, None, unwrap_or, option_map, option_and_then, ◌==◌, if◌then◌else◌}
use Rattle.unicode_ident.specs.Ident.{is_xid_start, is_xid_continue}
use Rattle.ig_text.specs.Ranges.{normal_form}
use Rattle.ig_text.specs.declared.class.Class.{Class}
use Rattle.ig_text.specs.declared.class.Class.TheVariants.{Ranges}
use Rattle.ig_text.specs.Words.{is_digit}
use Rattle.ig_expr.specs.Reading.{spelled}
use Rattle.ig_notation_syntax.specs.Token.{Token, Name, Head, Number, Literal, OneOf}
use Rattle.ig_notation_syntax.specs.Spelling.{entry, signs, keywords, named_classes, is_one_of, literal_signs, class_signs, escape, begins, blanks}

-- what stands first in a text: nothing, a separator or a token and then the rest, or none of these
pub data Next : Type 0 where
  ended : Next
  separator : (rest : List ℕ) → Next
  token : (t : Token) (rest : List ℕ) → Next
  broken : Next

-- the longest front of such characters
abbrev pub run : (ℕ → Bool) → List ℕ → List ℕ
run p [] = []
run p (c ∷ cs) = if p c then c ∷ run p cs else []

-- what stands behind that front
abbrev pub past : (ℕ → Bool) → List ℕ → List ℕ
past p [] = []
past p (c ∷ cs) = if p c then past p cs else c ∷ cs

-- a comment, behind its first `/`
abbrev pub comment : List ℕ → Next
comment [] = broken
comment (c ∷ cs) = if c == 47 then separator (past (λ d. not (d == 10)) cs) else broken

-- a name, or with `(` directly behind it a head
abbrev pub name_token : List ℕ → List ℕ → Next
name_token name [] = token (Name name) []
name_token name (c ∷ cs) = if c == 40 then token (Head name) cs else token (Name name) (c ∷ cs)

abbrev pub keyword_or_name : Option Token → List ℕ → List ℕ → Next
keyword_or_name (Some t) word rest = token t rest
keyword_or_name None word rest = name_token word rest

abbrev pub word_token : List ℕ → Next
word_token text = keyword_or_name (entry keywords (run is_xid_continue text)) (run is_xid_continue text) (past is_xid_continue text)

abbrev pub number_token : List ℕ → List ℕ → Next
number_token digits rest = if begins is_xid_continue rest then broken else token (Number (spelled 0 digits)) rest

-- a number whose first digit is c
abbrev pub numeral : ℕ → List ℕ → Next
numeral c cs = if c == 48 then number_token (c ∷ []) cs else number_token (c ∷ run is_digit cs) (past is_digit cs)

abbrev pub with_first : ℕ → List ℕ × List ℕ → List ℕ × List ℕ
with_first c parts = (c ∷ parts.0, parts.1)

-- what stands before and behind the first `stop` that isn't escaped
abbrev pub body : ℕ → Bool → List ℕ → Option (List ℕ × List ℕ)
body stop is_escaped [] = None
body stop is_escaped (c ∷ cs) =
    if not is_escaped && (c == stop) then Some ([], cs)
    else option_map (with_first c) (body stop (not is_escaped && (c == 92)) cs)

-- a character begins an escape, or stands for a character
pub data Letter : Type 0 where
  backslash : Letter
  stands_for : ℕ → Letter

-- what a character is, behind a backslash or not; none where it can't stand there
abbrev pub letter : List ℕ → Bool → ℕ → Option Letter
letter special true c = option_map stands_for (escape special c)
letter special false c =
    if c == 92 then Some backslash else (if is_one_of (10 ∷ special) c then None else Some (stands_for c))

-- the text for which a letter and what stands behind it stand
abbrev pub text_behind : Option Letter → (Bool → Option (List ℕ)) → Option (List ℕ)
text_behind None behind = None
text_behind (Some backslash) behind = behind true
text_behind (Some (stands_for c)) behind = option_map (λ text. c ∷ text) (behind false)

-- the text for which the characters between two quotes stand
abbrev pub text_of : Bool → List ℕ → Option (List ℕ)
text_of true [] = None
text_of false [] = Some []
text_of is_escaped (c ∷ cs) = text_behind (letter literal_signs is_escaped c) (λ e. text_of e cs)

-- a literal has one or more characters
abbrev pub not_empty : Option (List ℕ) → Option (List ℕ)
not_empty (Some (c ∷ cs)) = Some (c ∷ cs)
not_empty text = None

abbrev pub literal_of : List ℕ → Option (List ℕ)
literal_of inside = not_empty (text_of false inside)

-- a place in a class: between two ranges, behind a character that may begin a range, or behind one and its `-`
pub data Place : Type 0 where
  between : Place
  behind_character : ℕ → Place
  behind_dash : ℕ → Place

-- where the reading of a class stands behind a character, and the range that ends with it
pub record ClassStep : Type 0 where
  pub is_escaped : Bool
  pub place : Place
  pub range : Option (ℕ × ℕ)

abbrev pub dash : Place → Option ClassStep
dash (behind_character a) = Some (record { is_escaped = false; place = behind_dash a; range = None })
dash place = None

abbrev pub character : Place → ℕ → Option ClassStep
character between c = Some (record { is_escaped = false; place = behind_character c; range = None })
character (behind_character a) c =
    Some (record { is_escaped = false; place = behind_character c; range = Some (a, a) })
character (behind_dash a) c =
    if nat_le a c then Some (record { is_escaped = false; place = between; range = Some (a, c) }) else None

abbrev pub placed : Place → Letter → Option ClassStep
placed place backslash = Some (record { is_escaped = true; place = place; range = None })
placed place (stands_for c) = character place c

abbrev pub class_step : Bool → Place → ℕ → Option ClassStep
class_step is_escaped place c =
    if not is_escaped && (c == 45) then dash place
    else option_and_then (placed place) (letter class_signs is_escaped c)

-- the ranges with one more in front, where there is one
abbrev pub with_range : Option (ℕ × ℕ) → List (ℕ × ℕ) → List (ℕ × ℕ)
with_range None ranges = ranges
with_range (Some range) ranges = range ∷ ranges

abbrev pub ranges_behind : Option ClassStep → (Bool → Place → Option (List (ℕ × ℕ))) → Option (List (ℕ × ℕ))
ranges_behind None behind = None
ranges_behind (Some step) behind = option_map (with_range step.range) (behind step.is_escaped step.place)

-- the ranges that the characters between two brackets stand for
abbrev pub ranges_of : Bool → Place → List ℕ → Option (List (ℕ × ℕ))
ranges_of true place [] = None
ranges_of false between [] = Some []
ranges_of false (behind_character a) [] = Some ((a, a) ∷ [])
ranges_of false (behind_dash a) [] = None
ranges_of is_escaped place (c ∷ cs) = ranges_behind (class_step is_escaped place c) (λ e p. ranges_of e p cs)

-- a class has one or more ranges
abbrev pub class_with : Bool → Option (List (ℕ × ℕ)) → Option Class
class_with negated (Some (pair ∷ pairs)) = Some (Ranges negated (normal_form (pair ∷ pairs)))
class_with negated pairs = None

-- the class for which the characters between two brackets stand
abbrev pub class_of : List ℕ → Option Class
class_of [] = None
class_of (c ∷ cs) =
    if c == 94 then class_with true (ranges_of false between cs) else class_with false (ranges_of false between (c ∷ cs))

-- a token that is closed: what its inside stands for decides
abbrev pub closed : {A : Type 0} → (List ℕ → Option A) → (A → Token) → Option (List ℕ × List ℕ) → Next
closed meaning made None = broken
closed meaning made (Some parts) = unwrap_or (option_map (λ x. token (made x) parts.1) (meaning parts.0)) broken

-- a literal, behind its first quote
abbrev pub literal_token : List ℕ → Next
literal_token cs = closed literal_of Literal (body 34 false cs)

-- a class, behind its `[`
abbrev pub class_token : List ℕ → Next
class_token cs = closed class_of OneOf (body 93 false cs)

abbrev pub named_token : Option Class → List ℕ → Next
named_token None rest = broken
named_token (Some class) rest = token (OneOf class) rest

-- a class with a name, behind its `$`
abbrev pub named_class : List ℕ → Next
named_class cs = named_token (entry named_classes (run is_xid_continue cs)) (past is_xid_continue cs)

abbrev pub sign_of : ℕ → List ℕ → Option Next
sign_of n text = option_map (λ t. token t (drop n text)) (entry signs (take n text))

-- the longest sign
abbrev pub sign_token : List ℕ → Next
sign_token text = unwrap_or (sign_of 3 text) (unwrap_or (sign_of 2 text) (unwrap_or (sign_of 1 text) broken))

-- what stands first
abbrev pub next : List ℕ → Next
next [] = ended
next (c ∷ cs) =
    if is_one_of blanks c then separator cs
    else (if c == 47 then comment cs
    else (if is_xid_start c then word_token (c ∷ cs)
    else (if is_digit c then numeral c cs
    else (if c == 34 then literal_token cs
    else (if c == 91 then class_token cs
    else (if c == 36 then named_class cs
    else sign_token (c ∷ cs)))))))
