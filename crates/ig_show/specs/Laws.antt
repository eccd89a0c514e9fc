-- What holds of canonical texts.
use Rattle.std.specs.Prelude.{ℕ, List}
use Rattle.ig_notation_syntax.specs.Token.{Token}
use Rattle.ig_notation_syntax.specs.Rules.{FollowsRules}
use Rattle.ig_notation_syntax.specs.Notation.{Reads}
use Rattle.ig_grammar.specs.declared.grammar.Grammar.{Grammar}
use Rattle.ig_show.specs.CanonicalText.{tokens_of, text_of}

-- where some tokens follow the rules as a grammar, the tokens of its canonical text do too
abbrev pub CanonicalTokensFollow : Type 0
CanonicalTokensFollow = (ts : List Token) (g : Grammar) → FollowsRules ts g → FollowsRules (tokens_of g) g

-- where some text reads as a grammar, its canonical text does too
abbrev pub CanonicalTextReadsBack : Type 0
CanonicalTextReadsBack = (s : List ℕ) (g : Grammar) → Reads s g → Reads (text_of g) g
