-- How each token of the notation is spelled, and which token stands first in a text.
use Rattle.std.specs.Prelude.{◌≡◌, ℕ, ◌≤◌, Bool, true, false, not, List, [], ◌∷◌, ◌++◌, Option, Some, IsTrue, ◌==◌, codes, if◌then◌else◌}
use Rattle.std.specs.Map.{lookup}
use Rattle.std.specs.List.{list_all, list_any, zip}
use Rattle.unicode_ident.specs.Ident.{is_xid_continue}
use Rattle.ig_text.specs.Ranges.{normal_form}
use Rattle.ig_text.specs.declared.class.Class.{Class}
use Rattle.ig_text.specs.declared.class.Class.TheVariants.{Ranges, Any, XidStart, XidContinue}
use Rattle.ig_text.specs.Words.{is_word, is_digit}
use Rattle.ig_expr.specs.Reading.{spelled}
use Rattle.ig_grammar.specs.Name.{is_name, keywords as words}
use Rattle.ig_notation_syntax.specs.Texts as texts
use Rattle.ig_notation_syntax.specs.Token as token
use Rattle.ig_notation_syntax.specs.Token.{Token, Name, Head, Number, Literal, OneOf}

-- what a table has beside the word
abbrev pub entry : {A : Type 0} → List (List ℕ × A) → List ℕ → Option A
entry table word = lookup (λ w. is_word w word) table

unfoldable pub signs : List (List ℕ × Token)
signs =
    (codes ";", token.Semicolon) ∷ (codes "=", token.Equals) ∷ (codes "|", token.Bar) ∷ (codes ">", token.Greater) ∷
    (codes ":", token.Colon) ∷ (codes ",", token.Comma) ∷ (codes "(", token.Open) ∷ (codes ")", token.Close) ∷
    (codes "{", token.OpenBrace) ∷ (codes "}", token.CloseBrace) ∷ (codes "?", token.Question) ∷ (codes "*", token.Star) ∷
    (codes "+", token.Plus) ∷ (codes "-", token.Minus) ∷ (codes "\\", token.Backslash) ∷
    (codes "!>>", token.NotFollowedBy) ∷ (codes "!<<", token.NotPrecededBy) ∷ (codes "==", token.EqualTo) ∷
    (codes "!=", token.NotEqualTo) ∷ (codes "<", token.Less) ∷ (codes "<=", token.AtMost) ∷ (codes ">=", token.AtLeast) ∷ []

-- the words that are no names, each with its token
unfoldable pub keywords : List (List ℕ × Token)
keywords =
    zip words (
    token.Start ∷ token.Syntax ∷ token.Lexical ∷ token.Layout ∷ token.Left ∷ token.Right ∷
    token.Nonassoc ∷ token.Offside ∷ token.Ignore ∷ token.Align ∷ token.When ∷ token.Let ∷
    token.Here ∷ token.True ∷ token.False ∷ token.And ∷ token.Or ∷ token.Not ∷ token.Div ∷
    token.Mod ∷ token.Int ∷ token.Bool ∷ token.Span ∷ token.Tabs ∷ token.Return ∷ []
    )

-- the classes that have a name, which stands behind `$`
unfoldable pub named_classes : List (List ℕ × Class)
named_classes = (codes "any", Any) ∷ (codes "xid_start", XidStart) ∷ (codes "xid_continue", XidContinue) ∷ []

-- the character is one of these
abbrev pub is_one_of : List ℕ → ℕ → Bool
is_one_of cs c = list_any (λ d. d == c) cs

-- a numeral is `0`, or a digit 1 to 9 and then digits
pub data IsNumeral : List ℕ → Type 0 where
  nought : IsNumeral (48 ∷ [])
  digits : (c : ℕ) (cs : List ℕ) → IsTrue (is_digit c) → (c ≡ 48 → ⊥) → IsTrue (list_all is_digit cs) → IsNumeral (c ∷ cs)

-- the characters that stand behind a backslash only: in a literal `"` and `\`, in a class `[` `]` `^` `-` and `\`
abbrev pub literal_signs : List ℕ
literal_signs = 34 ∷ 92 ∷ []

abbrev pub class_signs : List ℕ
class_signs = 91 ∷ 93 ∷ 94 ∷ 45 ∷ 92 ∷ []

-- behind a backslash such a character stands for itself, and `n`, `r` and `t` for LF, CR and tab
abbrev pub escape : List ℕ → ℕ → Option ℕ
escape special c =
    if is_one_of special c then Some c
    else lookup (λ d. d == c) ((110, 10) ∷ (114, 13) ∷ (116, 9) ∷ [])

-- how a character is written: it stands alone, unless it is special or LF, or is escaped
pub data IsLetter (special : List ℕ) : List ℕ → ℕ → Type 0 where
  bare : (c : ℕ) → is_one_of (10 ∷ special) c ≡ false → IsLetter special (c ∷ []) c
  escaped : (c d : ℕ) → escape special c ≡ Some d → IsLetter special (92 ∷ c ∷ []) d

-- what stands between the quotes of a literal, and the text for which it stands
pub data SpellsText : List ℕ → List ℕ → Type 0 where
  no_letter : SpellsText [] []
  letter : (first more inside : List ℕ) (c : ℕ) (text : List ℕ) → IsLetter literal_signs first c → SpellsText more text →
      inside ≡ first ++ more → SpellsText inside (c ∷ text)

-- ranges of a class: each is a character, or two with `-` between them, the first not greater than the second
pub data SpellsRanges : List ℕ → List (ℕ × ℕ) → Type 0 where
  no_range : SpellsRanges [] []
  one_character : (first more inside : List ℕ) (c : ℕ) (pairs : List (ℕ × ℕ)) → IsLetter class_signs first c →
      SpellsRanges more pairs → inside ≡ first ++ more → SpellsRanges inside ((c, c) ∷ pairs)
  two_characters : (first last more inside : List ℕ) (c d : ℕ) (pairs : List (ℕ × ℕ)) → IsLetter class_signs first c →
      IsLetter class_signs last d → c ≤ d → SpellsRanges more pairs → inside ≡ first ++ 45 ∷ (last ++ more) →
      SpellsRanges inside ((c, d) ∷ pairs)

-- these characters are this token
pub data IsToken : List ℕ → Token → Type 0 where
  name : (cs : List ℕ) → IsTrue (is_name cs) → IsToken cs (Name cs)
  head : (cs whole : List ℕ) → IsTrue (is_name cs) → whole ≡ cs ++ 40 ∷ [] → IsToken whole (Head cs)
  number : (cs : List ℕ) → IsNumeral cs → IsToken cs (Number (spelled 0 cs))
  literal : (inside whole : List ℕ) (c : ℕ) (text : List ℕ) → SpellsText inside (c ∷ text) →
      whole ≡ 34 ∷ (inside ++ 34 ∷ []) → IsToken whole (Literal (c ∷ text))
  ranges : (inside whole : List ℕ) (pair : ℕ × ℕ) (pairs : List (ℕ × ℕ)) → SpellsRanges inside (pair ∷ pairs) →
      whole ≡ 91 ∷ (inside ++ 93 ∷ []) → IsToken whole (OneOf (Ranges false (normal_form (pair ∷ pairs))))
  other_ranges : (inside whole : List ℕ) (pair : ℕ × ℕ) (pairs : List (ℕ × ℕ)) → SpellsRanges inside (pair ∷ pairs) →
      whole ≡ 91 ∷ 94 ∷ (inside ++ 93 ∷ []) → IsToken whole (OneOf (Ranges true (normal_form (pair ∷ pairs))))
  named_class : (cs : List ℕ) (class : Class) → entry named_classes cs ≡ Some class → IsToken (36 ∷ cs) (OneOf class)
  sign : (cs : List ℕ) (t : Token) → entry signs cs ≡ Some t → IsToken cs t
  keyword : (cs : List ℕ) (t : Token) → entry keywords cs ≡ Some t → IsToken cs t

-- a character of this kind stands first
abbrev pub begins : (ℕ → Bool) → List ℕ → Bool
begins p [] = false
begins p (c ∷ cs) = p c

-- behind a number and a class with a name stands no XID_Continue character
abbrev pub may_precede : Token → List ℕ → Bool
may_precede (Number n) rest = not (begins is_xid_continue rest)
may_precede (OneOf (Ranges negated pairs)) rest = true
may_precede (OneOf class) rest = not (begins is_xid_continue rest)
may_precede t rest = true

-- the text is this token and then the rest
pub record StandsFirst (text : List ℕ) (t : Token) (rest : List ℕ) : Type 0 where
  pub front : List ℕ
  pub parts : text ≡ front ++ rest
  pub spelled_so : IsToken front t
  pub free : IsTrue (may_precede t rest)

-- the token stands first, and no other one that does is as long
abbrev pub IsLongest : List ℕ → Token → List ℕ → Type 0
IsLongest = texts.IsLongest StandsFirst

-- space, tab, CR and LF separate tokens
abbrev pub blanks : List ℕ
blanks = 32 ∷ 9 ∷ 13 ∷ 10 ∷ []

-- a line ends here, or the text
abbrev pub EndsLine : List ℕ → Type 0
EndsLine [] = Unit {0}
EndsLine (c ∷ cs) = c ≡ 10

-- the text is a separator and then the rest: a blank, or a comment from `//` to before the end of the line
pub data IsSeparator : List ℕ → List ℕ → Type 0 where
  blank : (c : ℕ) (rest : List ℕ) → IsTrue (is_one_of blanks c) → IsSeparator (c ∷ rest) rest
  comment : (line rest text : List ℕ) → is_one_of line 10 ≡ false → EndsLine rest → text ≡ 47 ∷ 47 ∷ (line ++ rest) →
      IsSeparator text rest
