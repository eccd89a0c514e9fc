-- Which texts of the notation of the XML recommendation are read, and why others aren't. The faults are those of the own
-- notation, by these tokens and rules; there are no numbers.
use Rattle.std.specs.Prelude.{◌≡◌, ℕ, ◌<◌, ◌≤◌, List, map, length, chars}
use Rattle.ig_notation_syntax.specs.Texts.{Lexes, Breaks}
use Rattle.ig_notation_syntax.specs.Notation.{most_bytes}
use Rattle.ig_notation_syntax.specs.Stops.{Stops}
use Rattle.ig_grammar.specs.declared.grammar.Grammar.{Grammar}
use Rattle.ig_notation_terms.specs.Limits.{IsShallow, byte_of}
use Rattle.ig_notation.specs.declared.fault.ReadFault.{ReadFault}
use Rattle.ig_notation.specs.declared.fault.ReadFault.TheVariants as faults
use Rattle.ig_notation.specs.declared.fault.Large.TheVariants as large
use Rattle.ig_w3c_syntax.specs.Token.{Token}
use Rattle.ig_w3c_syntax.specs.Spelling.{StandsFirst, IsSeparator}
use Rattle.ig_w3c_syntax.specs.Reading.{ReadsAs, in_own_notation}
use Rattle.ig_w3c_syntax.specs.RuleLaws.{AreOfGrammar}

-- the tokens without their places
abbrev pub unplaced : List (Token × ℕ) → List Token
unplaced tokens = map (λ p. p.0) tokens

-- the text has at most so many bytes, and these tokens
pub record HasTokens (source : List ℕ) (tokens : List (Token × ℕ)) : Type 0 where
  pub bytes : length source ≤ most_bytes
  pub lexed : Lexes StandsFirst IsSeparator 0 (chars source) tokens

-- no more brackets are open at one place than the same tokens may have open in the own notation
abbrev pub IsShallowText : List (Token × ℕ) → Type 0
IsShallowText tokens = IsShallow (in_own_notation (unplaced tokens))

-- a text, by its bytes, reads as the grammar
pub record IsRead (source : List ℕ) (g : Grammar) : Type 0 where
  pub tokens : List (Token × ℕ)
  pub are_tokens : HasTokens source tokens
  pub shallow : IsShallowText tokens
  pub reads : ReadsAs (unplaced tokens) g

-- why a text isn't read: the first of these tests that fails
pub data IsReadFault (source : List ℕ) : ReadFault → Type 0 where
  -- it has too many bytes
  too_many_bytes : most_bytes < length source → IsReadFault source (faults.TooLarge large.Bytes)
  -- behind some separators and tokens neither begins
  no_token : (at : ℕ) → length source ≤ most_bytes → Breaks StandsFirst IsSeparator 0 (chars source) at →
      IsReadFault source (faults.Syntax at)
  -- more than 64 brackets are open at one place
  deep : (tokens : List (Token × ℕ)) → HasTokens source tokens → (IsShallowText tokens → ⊥) →
      IsReadFault source (faults.TooLarge large.Nesting)
  -- the tokens stop following the rules
  against_rules : (tokens : List (Token × ℕ)) (number at : ℕ) → HasTokens source tokens → IsShallowText tokens →
      Stops AreOfGrammar (unplaced tokens) number → at ≡ byte_of (length source) tokens number →
      IsReadFault source (faults.Syntax at)
  -- want of memory may come at any time
  no_memory : IsReadFault source faults.Memory
