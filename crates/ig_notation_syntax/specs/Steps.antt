-- How far a text has been read, as the functions that read it promise.
use Rattle.std.specs.Prelude.{◌≡◌, ℕ, Bool, not, List, [], ◌∷◌, ◌++◌, Option, Some, None, IsUtf8, chars, encode_utf8, map, true, false, ◌==◌, if◌then◌else◌}
use Rattle.std.specs.Borrow.{Bor}
use Rattle.std.specs.Map.{lookup}
use Rattle.unicode_ident.specs.Ident.{is_xid_continue}
use Rattle.ig_text.specs.Words.{is_digit}
use Rattle.ig_notation_syntax.specs.Token as token
use Rattle.ig_notation_syntax.specs.Spelling.{literal_signs, class_signs}
use Rattle.ig_notation_syntax.specs.Scanner as scanner
use Rattle.ig_notation_syntax.specs.declared.token.Token.{Token}
use Rattle.ig_notation_syntax.specs.View.{token_of}
use Rattle.ig_notation_syntax.specs.declared.step.Step.{Step}
use Rattle.ig_notation_syntax.specs.declared.step.Step.TheVariants as steps
use Rattle.ig_notation_syntax.specs.declared.characters.Run.{Run}
use Rattle.ig_notation_syntax.specs.declared.characters.Run.TheVariants.{OfWord, OfDigits, OfLine}
use Rattle.ig_notation_syntax.specs.declared.letters.Quoting.{Quoting}
use Rattle.ig_notation_syntax.specs.declared.letters.Quoting.TheVariants.{OfLiteral, OfClass}
use Rattle.ig_notation_syntax.specs.declared.letters.Letter.{Letter}
use Rattle.ig_notation_syntax.specs.declared.letters.Letter.TheVariants as letters
use Rattle.ig_notation_syntax.specs.declared.classes.Place.{Place}
use Rattle.ig_notation_syntax.specs.declared.classes.Place.TheVariants as places
use Rattle.ig_notation_syntax.specs.declared.classes.ClassStep.{ClassStep}

-- the text begins with the character c, and rest stands behind it
pub record Begins (text : List ℕ) (c : ℕ) (rest : List ℕ) : Type 0 where
  pub bytes : text ≡ encode_utf8 c ++ rest
  pub whole : IsUtf8 rest
  pub spelled : chars text ≡ c ∷ chars rest

-- which characters a run has: those of words, digits, and those of a line
abbrev pub belongs : Run → ℕ → Bool
belongs OfWord = is_xid_continue
belongs OfDigits = is_digit
belongs OfLine = λ d. not (d == 10)

-- the front of the text is the longest one of its kind
pub record IsSplit (run : Run) (text front rest : List ℕ) : Type 0 where
  pub whole_front : IsUtf8 front
  pub whole_rest : IsUtf8 rest
  pub front_is : chars front ≡ scanner.run (belongs run) (chars text)
  pub rest_is : chars rest ≡ scanner.past (belongs run) (chars text)

-- the rest stands behind some front of the text
pub record IsBehind (text rest : List ℕ) : Type 0 where
  pub front : List ℕ
  pub parts : text ≡ front ++ rest
  pub whole : IsUtf8 rest

-- the text is cut before the first stop that isn't escaped
pub record IsCut (stop : ℕ) (text inside rest : List ℕ) : Type 0 where
  pub whole_inside : IsUtf8 inside
  pub whole_rest : IsUtf8 rest
  pub cut : scanner.body stop false (chars text) ≡ Some (chars inside, chars rest)

-- the step is what stands first
abbrev pub Gives : scanner.Next → Step → Type 0
Gives next (steps.Separator rest) = IsUtf8 rest.now × (next ≡ scanner.separator (chars rest.now))
Gives next (steps.Takes t rest) = IsUtf8 rest.now × (next ≡ scanner.token (token_of t) (chars rest.now))
Gives next steps.Broken = next ≡ scanner.broken

abbrev pub special : Quoting → List ℕ
special OfLiteral = literal_signs
special OfClass = class_signs

abbrev pub letter_of : Letter → scanner.Letter
letter_of letters.Backslash = scanner.backslash
letter_of (letters.StandsFor c) = scanner.stands_for c

abbrev pub place_of : Place → scanner.Place
place_of places.Between = scanner.between
place_of (places.BehindCharacter a) = scanner.behind_character a
place_of (places.BehindDash a) = scanner.behind_dash a

abbrev pub step_of : ClassStep → scanner.ClassStep
step_of s = record { is_escaped = s.is_escaped; place = place_of s.place; range = s.range }

-- the signs of one character with which no longer one begins
unfoldable pub single_signs : List (ℕ × token.Token)
single_signs =
    (59, token.Semicolon) ∷ (124, token.Bar) ∷ (58, token.Colon) ∷ (44, token.Comma) ∷ (40, token.Open) ∷
    (41, token.Close) ∷ (123, token.OpenBrace) ∷ (125, token.CloseBrace) ∷ (63, token.Question) ∷ (42, token.Star) ∷
    (43, token.Plus) ∷ (45, token.Minus) ∷ (92, token.Backslash) ∷ []

abbrev pub single_sign : ℕ → Option token.Token
single_sign c = lookup (λ d. d == c) single_signs

-- a sign that is longer where `=` stands directly behind it
abbrev pub with_equals : token.Token → token.Token → List ℕ → scanner.Next
with_equals alone longer [] = scanner.token alone []
with_equals alone longer (c ∷ cs) = if c == 61 then scanner.token longer cs else scanner.token alone (c ∷ cs)

-- the sign, where its last character stands first
abbrev pub again : ℕ → token.Token → List ℕ → scanner.Next
again last sign [] = scanner.broken
again last sign (c ∷ cs) = if c == last then scanner.token sign cs else scanner.broken

-- a sign that begins with `!`, behind that
abbrev pub exclamation : List ℕ → scanner.Next
exclamation [] = scanner.broken
exclamation (c ∷ cs) =
    if c == 61 then scanner.token token.NotEqualTo cs
    else (if c == 62 then again 62 token.NotFollowedBy cs
    else (if c == 60 then again 60 token.NotPrecededBy cs else scanner.broken))

abbrev pub is_backslash : Letter → Bool
is_backslash letters.Backslash = true
is_backslash (letters.StandsFor c) = false

-- the character for which a letter stands, where it does
abbrev pub stood_for : Letter → List ℕ
stood_for letters.Backslash = []
stood_for (letters.StandsFor c) = c ∷ []

-- the inside of a class begins with `^` or not, and the rest stands behind that
pub record IsNegation (inside : List ℕ) (negated : Bool) (rest : List ℕ) : Type 0 where
  pub whole : IsUtf8 rest
  pub class_is : scanner.class_of (chars inside) ≡ scanner.class_with negated (scanner.ranges_of false scanner.between (chars rest))

-- where there are ranges, they were added
abbrev pub AddsRanges : Option (List (ℕ × ℕ)) → List (ℕ × ℕ) → List (ℕ × ℕ) → Bool → Type 0
AddsRanges ranges old new true = (added : List (ℕ × ℕ)) × (ranges ≡ Some added) × (new ≡ old ++ added)
AddsRanges ranges old new false = ranges ≡ None

-- a table as it is stored, with what its tokens mean
abbrev pub rows_of : List (Bor (List ℕ) × Token) → List (List ℕ × token.Token)
rows_of table = map (λ row. (row.0.now, token_of row.1)) table
