-- Which grammar a text reads as.
use Rattle.std.specs.Prelude.{◌≡◌, ℕ, List, true, map}
use Rattle.std.specs.List.{list_all}
use Rattle.ig_notation_syntax.specs.Texts.{Lexes}
use Rattle.ig_grammar.specs.declared.grammar.Grammar.{Grammar}
use Rattle.ig_w3c_syntax.specs.Token.{Token}
use Rattle.ig_w3c_syntax.specs.Spelling.{StandsFirst, IsSeparator, is_character}
use Rattle.ig_w3c_syntax.specs.Reading.{ReadsAs}

-- the tokens of the text read as the grammar
pub record Reads (text : List ℕ) (g : Grammar) : Type 0 where
  -- each token with the byte at which it begins
  pub placed : List (Token × ℕ)
  pub lexes : Lexes StandsFirst IsSeparator 0 text placed
  pub reads : ReadsAs (map (λ p. p.0) placed) g

-- the text has characters alone
abbrev pub HasCharacters : List ℕ → Type 0
HasCharacters text = list_all is_character text ≡ true

-- some text of characters reads as the grammar
abbrev pub HasReading : Grammar → Type 0
HasReading g = (text : List ℕ) × HasCharacters text × Reads text g
