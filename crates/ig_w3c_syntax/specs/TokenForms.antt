-- What a token of a text keeps to: how many characters it has at least, and which names, strings, codes and sets there are.
use Rattle.std.specs.Prelude.{◌≡◌, ◌≢◌, ℕ, ◌+◌, ◌≤◌, List, [], ◌∷◌, Bool, true, All}
use Rattle.std.specs.List.{list_all}
use Rattle.ig_text.specs.Ranges.{normal_form, NoneFalls}
use Rattle.ig_text.specs.declared.class.Class.{Class}
use Rattle.ig_text.specs.declared.class.Class.TheVariants.{Ranges}
use Rattle.ig_grammar.specs.Name.{is_name}
use Rattle.ig_notation_syntax.specs.Spelling.{is_one_of}
use Rattle.ig_w3c_syntax.specs.Token.{Token, Head, Name, Text, Code, OneOf}
use Rattle.ig_w3c_syntax.specs.Spelling.{is_inside, is_character, quotes}

-- a head has four characters or more, since `::=` stands behind its name; each other token has one or more
abbrev pub least : Token → ℕ
least (Head x) = 4
least t = 1

abbrev pub least_of : List (Token × ℕ) → ℕ
least_of [] = 0
least_of (p ∷ tokens) = least p.0 + least_of tokens

-- the word can stand between two of a quote; it has characters alone where the text has
pub record IsString (valid : Type 0) (word : List ℕ) : Type 0 where
  pub quote : ℕ
  pub is_quote : is_one_of quotes quote ≡ true
  pub inside : list_all (is_inside quote) word ≡ true
  pub some : word ≢ []
  pub characters : valid → list_all is_character word ≡ true

-- both ends of a part of a set are characters
abbrev pub HasCharacters : ℕ × ℕ → Type 0
HasCharacters p = (is_character p.0 ≡ true) × (is_character p.1 ≡ true)

-- the class is that of some parts, of which none falls; their ends are characters where those of the text are
pub record IsSet (valid : Type 0) (class : Class) : Type 0 where
  pub negated : Bool
  pub first : ℕ × ℕ
  pub others : List (ℕ × ℕ)
  pub class_is : class ≡ Ranges negated (normal_form (first ∷ others))
  pub rise : NoneFalls (first ∷ others)
  pub ends : valid → All HasCharacters (first ∷ others)

-- the token has the form of one
abbrev pub HasForm : Type 0 → Token → Type 0
HasForm valid (Head x) = is_name x ≡ true
HasForm valid (Name x) = is_name x ≡ true
HasForm valid (Text word) = IsString valid word
HasForm valid (Code c) = is_character c ≡ true
HasForm valid (OneOf class) = IsSet valid class
HasForm valid t = Unit {0}
