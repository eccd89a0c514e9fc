-- How far a text has been read, as the functions that read it promise.
use Rattle.std.specs.Prelude.{◌≡◌, ◌≢◌, ℕ, List, [], ◌∷◌, ◌++◌, Option, Some, None, IsUtf8, chars, encode_utf8, Bool, true, false, drop}
use Rattle.unicode_ident.specs.Ident.{is_xid_start, is_xid_continue}
use Rattle.ig_text.specs.Ranges.{normal_form}
use Rattle.ig_text.specs.declared.class.Class.TheVariants.{Ranges}
use Rattle.ig_text.specs.declared.class.Class.{Class}
use Rattle.ig_w3c_syntax.specs.Token as spec
use Rattle.ig_notation_syntax.specs.Texts.{IsLongest, IsBroken}
use Rattle.ig_w3c_syntax.specs.Spelling.{run, past, is_hexadecimal, is_inside, IsSeparator, AreSeparators, StandsFirst, begins_code, joins, IsPart, AreParts}
use Rattle.ig_w3c_syntax.specs.View.{token_of}
use Rattle.ig_w3c_syntax.specs.declared.step.Step.{Step}
use Rattle.ig_w3c_syntax.specs.declared.step.Step.TheVariants as steps
use Rattle.ig_w3c_syntax.specs.declared.characters.Run.{Run}
use Rattle.ig_w3c_syntax.specs.declared.characters.Run.TheVariants.{OfWord, OfHexadecimal, Inside}

-- the text begins with the character c, and rest stands behind it
pub record Begins (text : List ℕ) (c : ℕ) (rest : List ℕ) : Type 0 where
  pub bytes : text ≡ encode_utf8 c ++ rest
  pub whole : IsUtf8 rest
  pub spelled : chars text ≡ c ∷ chars rest

-- which characters a run has
abbrev pub belongs : Run → ℕ → Bool
belongs OfWord = is_xid_continue
belongs OfHexadecimal = is_hexadecimal
belongs (Inside quote) = is_inside quote

-- the front of the text is the longest one of its kind
pub record IsSplit (kind : Run) (text front rest : List ℕ) : Type 0 where
  pub whole_front : IsUtf8 front
  pub whole_rest : IsUtf8 rest
  pub front_is : chars front ≡ run (belongs kind) (chars text)
  pub rest_is : chars rest ≡ past (belongs kind) (chars text)

-- the rest stands behind some front of the text
pub record IsBehind (text rest : List ℕ) : Type 0 where
  pub front : List ℕ
  pub parts : text ≡ front ++ rest
  pub whole : IsUtf8 rest

-- what stands behind the text's front is what the definition says: the rest, or the character and the rest
abbrev pub IsRest : Option (List ℕ) → List ℕ → Type 0
IsRest found rest = IsUtf8 rest × (found ≡ Some (chars rest))

abbrev pub IsCharacter : Option (ℕ × List ℕ) → ℕ → List ℕ → Type 0
IsCharacter found c rest = IsUtf8 rest × (found ≡ Some (c, chars rest))

-- the character stands first, and the rest behind it; it doesn't
abbrev pub IsAfter : List ℕ → ℕ → List ℕ → Type 0
IsAfter text c rest = IsUtf8 rest × (text ≡ c ∷ chars rest)

abbrev pub NotFirst : List ℕ → ℕ → Type 0
NotFirst text c = (more : List ℕ) → text ≡ c ∷ more → ⊥

-- the digits of a code, behind `#x`; the rest behind a `-` that joins
abbrev pub HasDigits : List ℕ → List ℕ → Type 0
HasDigits text rest = IsUtf8 rest × (begins_code text ≡ true) × (chars rest ≡ drop 2 text)

abbrev pub IsJoined : List ℕ → List ℕ → Type 0
IsJoined text rest = IsUtf8 rest × (joins text ≡ true) × (chars rest ≡ drop 1 text)

-- a separator stands first, and the rest behind it; none does
abbrev pub Separates : List ℕ → List ℕ → Type 0
Separates text rest = IsUtf8 rest × IsSeparator text (chars rest)

abbrev pub NoSeparator : List ℕ → Type 0
NoSeparator text = (more : List ℕ) → IsSeparator text more → ⊥

-- separators stand first, and the rest behind all of them
pub record IsPast (text rest : List ℕ) : Type 0 where
  pub whole : IsUtf8 rest
  pub separators : AreSeparators text (chars rest)
  pub all : NoSeparator (chars rest)

-- the end of a head stands first, and the rest behind it
abbrev pub EndsHead : List ℕ → List ℕ → Type 0
EndsHead text rest = IsUtf8 rest × AreSeparators text (58 ∷ 58 ∷ 61 ∷ chars rest)

abbrev pub NoHead : List ℕ → Type 0
NoHead text = (more : List ℕ) → AreSeparators text (58 ∷ 58 ∷ 61 ∷ more) → ⊥

-- a part of a set stands first, and the rest behind it
abbrev pub HasPart : List ℕ → ℕ × ℕ → List ℕ → Type 0
HasPart text p rest = IsUtf8 rest × IsPart text p (chars rest)

abbrev pub NoPart : List ℕ → Type 0
NoPart text = (p : ℕ × ℕ) (more : List ℕ) → IsPart text p more → ⊥

-- the parts of a set and `]` stand first, and the rest behind them
abbrev pub HasParts : List ℕ → List (ℕ × ℕ) → List ℕ → Type 0
HasParts text ps rest = IsUtf8 rest × AreParts text ps (chars rest)

-- a set stands behind its `[`, and the rest behind it; none does
abbrev pub HasSet : List ℕ → Class → List ℕ → Type 0
HasSet text class rest = IsUtf8 rest × StandsFirst (91 ∷ text) (spec.OneOf class) (chars rest)

abbrev pub NoSet : List ℕ → Type 0
NoSet text = (class : Class) (more : List ℕ) → StandsFirst (91 ∷ text) (spec.OneOf class) more → ⊥

abbrev pub NoParts : List ℕ → Type 0
NoParts text = (ps : List (ℕ × ℕ)) (more : List ℕ) → AreParts text ps more → ⊥

-- the step is what stands first
abbrev pub Gives : List ℕ → Step → Type 0
Gives text (steps.Separator rest) = Separates text rest.now
Gives text (steps.Takes t rest) = IsUtf8 rest.now × IsLongest StandsFirst text (token_of t) (chars rest.now)
Gives text steps.Broken = IsBroken StandsFirst IsSeparator text

-- `/*` stands first, and the rest behind it, and `*/`; they don't
abbrev pub IsComment : List ℕ → List ℕ → Type 0
IsComment text rest = IsUtf8 rest × (text ≡ 47 ∷ 42 ∷ chars rest)

abbrev pub NoComment : List ℕ → Type 0
NoComment text = (more : List ℕ) → text ≡ 47 ∷ 42 ∷ more → ⊥

abbrev pub IsCommentEnd : List ℕ → List ℕ → Type 0
IsCommentEnd text rest = IsUtf8 rest × (text ≡ 42 ∷ 47 ∷ chars rest)

abbrev pub NoCommentEnd : List ℕ → Type 0
NoCommentEnd text = (more : List ℕ) → text ≡ 42 ∷ 47 ∷ more → ⊥

-- the text begins with c, and after stands behind that; no separator stands first
pub record Begun (text : List ℕ) (c : ℕ) (after : List ℕ) : Type 0 where
  pub spelled : text ≡ c ∷ chars after
  pub whole : IsUtf8 after
  pub no_separator : NoSeparator text

-- the text begins with a letter; with `#`
pub record BeginsWord (text : List ℕ) : Type 0 where
  pub first : ℕ
  pub others : List ℕ
  pub parts : text ≡ first ∷ others
  pub letter : is_xid_start first ≡ true
  pub no_separator : NoSeparator text

pub record BeginsHash (text : List ℕ) : Type 0 where
  pub after : List ℕ
  pub parts : text ≡ 35 ∷ after
  pub no_separator : NoSeparator text

-- the parts of a set stand there, one or more, and make the class
pub record HasClass (negated : Bool) (inside : List ℕ) (class : Class) (rest : List ℕ) : Type 0 where
  pub whole : IsUtf8 rest
  pub first : ℕ × ℕ
  pub others : List (ℕ × ℕ)
  pub parts : AreParts inside (first ∷ others) (chars rest)
  pub class_is : class ≡ Ranges negated (normal_form (first ∷ others))

abbrev pub NoClass : List ℕ → Type 0
NoClass inside = (p : ℕ × ℕ) (ps : List (ℕ × ℕ)) (more : List ℕ) → AreParts inside (p ∷ ps) more → ⊥
