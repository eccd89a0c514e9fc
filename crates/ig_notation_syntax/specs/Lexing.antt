-- The tokens of a text, each with the byte at which it begins, and where a text breaks.
use Rattle.std.specs.Prelude.{ℕ, List}
use Rattle.ig_notation_syntax.specs.Token.{Token}
use Rattle.ig_notation_syntax.specs.Spelling.{IsSeparator, StandsFirst}
use Rattle.ig_notation_syntax.specs.Texts as texts

-- the text, whose first byte is the one at `at`, is these tokens, each the longest where it stands, and separators
abbrev pub Lexes : ℕ → List ℕ → List (Token × ℕ) → Type 0
Lexes = texts.Lexes StandsFirst IsSeparator

-- neither a separator nor a token stands first in the text, nor does it end
abbrev pub IsBroken : List ℕ → Type 0
IsBroken = texts.IsBroken StandsFirst IsSeparator

-- behind separators and longest tokens the text is broken at the byte b
abbrev pub Breaks : ℕ → List ℕ → ℕ → Type 0
Breaks = texts.Breaks StandsFirst IsSeparator
