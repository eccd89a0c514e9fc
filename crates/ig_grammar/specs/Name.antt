-- Which words are names of the notation.
use Rattle.std.specs.Prelude.{ℕ, Bool, false, not, ◌&&◌, List, [], ◌∷◌, codes, ◌≡◌, true}
use Rattle.std.specs.List.{list_any, list_all}
use Rattle.ig_text.specs.declared.class.Class.TheVariants.{XidStart, XidContinue}
use Rattle.ig_text.specs.Class.{is_in_class}
use Rattle.ig_text.specs.Words.{is_word}

-- the words that are no names
abbrev pub keywords : List (List ℕ)
keywords =
    codes "start" ∷ codes "syntax" ∷ codes "lexical" ∷ codes "layout" ∷ codes "left" ∷ codes "right" ∷
    codes "nonassoc" ∷ codes "offside" ∷ codes "ignore" ∷ codes "align" ∷ codes "when" ∷ codes "let" ∷
    codes "here" ∷ codes "true" ∷ codes "false" ∷ codes "and" ∷ codes "or" ∷ codes "not" ∷ codes "div" ∷
    codes "mod" ∷ codes "int" ∷ codes "bool" ∷ codes "span" ∷ codes "tabs" ∷ codes "return" ∷ []

abbrev pub is_keyword : List ℕ → Bool
is_keyword word = list_any (is_word word) keywords

-- a character that may begin a name, then characters that may go on with it
abbrev pub is_identifier : List ℕ → Bool
is_identifier [] = false
is_identifier (c ∷ cs) = is_in_class XidStart c && list_all (is_in_class XidContinue) cs

-- an identifier that is no keyword
abbrev pub is_name : List ℕ → Bool
is_name word = is_identifier word && not (is_keyword word)

-- the word is a name of the notation
abbrev pub IsName : List ℕ → Type 0
IsName word = is_name word ≡ true
