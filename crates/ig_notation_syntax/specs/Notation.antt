-- Which grammar a text reads as, and how long a grammar text may be.
use Rattle.std.specs.Prelude.{ℕ, List, map}
use Rattle.ig_notation_syntax.specs.Token.{Token}
use Rattle.ig_notation_syntax.specs.Lexing.{Lexes}
use Rattle.ig_notation_syntax.specs.Rules.{FollowsRules}
use Rattle.ig_grammar.specs.declared.grammar.Grammar.{Grammar}

-- the most bytes that a grammar text may have
abbrev pub most_bytes : ℕ
most_bytes = 262144

-- the tokens of the text follow the rules as the grammar
pub record Reads (text : List ℕ) (g : Grammar) : Type 0 where
  -- each token with the byte at which it begins
  pub placed : List (Token × ℕ)
  pub lexes : Lexes 0 text placed
  pub follows : FollowsRules (map (λ p. p.0) placed) g
