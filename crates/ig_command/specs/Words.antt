-- What stands among the words behind the name of a command: positional words, and options with their values.
use Rattle.std.specs.Prelude.{ℕ, ◌&&◌, Bool, false, not, ◌==◌, if◌then◌else◌, List, [], ◌∷◌, take, drop, Option, Some, None, option_map, codes}
use Rattle.std.specs.List.{list_any, before_first, after_first}
use Rattle.ig_text.specs.Words.{is_word}

-- an option with its value
pub record Setting : Type 0 where
  pub name : List ℕ
  pub value : List ℕ

-- the positional words and the options, each in order
pub record Parts : Type 0 where
  pub positional : List (List ℕ)
  pub options : List Setting

abbrev pub no_parts : Parts
no_parts = record { positional = []; options = [] }

abbrev pub with_positional : List ℕ → Parts → Parts
with_positional word parts = record { positional = word ∷ parts.positional; options = parts.options }

abbrev pub with_setting : List ℕ → List ℕ → Parts → Parts
with_setting name value parts =
    record { positional = parts.positional; options = record { name = name; value = value } ∷ parts.options }

-- a positional word or a value: it isn't empty and doesn't begin with `-`. Words are given by their bytes
abbrev pub is_value : List ℕ → Bool
is_value [] = false
is_value (c ∷ cs) = not (c == 45)

abbrev pub is_equals : ℕ → Bool
is_equals c = c == 61

-- the word begins with `--`
abbrev pub is_long : List ℕ → Bool
is_long word = is_word (take 2 word) (codes "--")

-- `--NAME=VALUE`, where the first `=` ends the name
abbrev pub is_joined : List ℕ → Bool
is_joined word = is_long word && list_any is_equals (drop 2 word)

-- `--NAME`, which has the next word as its value
abbrev pub is_apart : List ℕ → Bool
is_apart word = is_long word && not (list_any is_equals (drop 2 word))

-- an option in front of such others; none where its value is no value
abbrev pub option_before : List ℕ → List ℕ → Option Parts → Option Parts
option_before name value others = if is_value value then option_map (with_setting name value) others else None

-- a word alone in front of such others: a positional word, or `--NAME=VALUE`
abbrev pub word_before : List ℕ → Option Parts → Option Parts
word_before word others =
    if is_value word then option_map (with_positional word) others
    else (if is_joined word
    then option_before (before_first is_equals (drop 2 word)) (after_first is_equals (drop 2 word)) others
    else None)

-- the parts of the words; none where a word is no part
abbrev pub parts_of : List (List ℕ) → Option Parts
parts_of [] = Some no_parts
parts_of (word ∷ []) = word_before word (Some no_parts)
parts_of (word ∷ next ∷ others) =
    if is_apart word then option_before (drop 2 word) next (parts_of others)
    else word_before word (parts_of (next ∷ others))
