-- Laws of the rules of the notation of the XML recommendation.
use Rattle.std.specs.Prelude.{◌≡◌, ℕ, List, Some, None, All}
use Rattle.ig_notation_syntax.specs.Stops.{Stops}
use Rattle.ig_notation_syntax.specs.Rules.{FollowsRules}
use Rattle.ig_grammar.specs.declared.grammar.Grammar.{Grammar}
use Rattle.ig_w3c_syntax.specs.Token.{Token}
use Rattle.ig_w3c_syntax.specs.Rules.{KeepsRules}
use Rattle.ig_w3c_syntax.specs.Reading.{ReadsAs, declared}
use Rattle.ig_w3c_syntax.specs.RuleForms.{IsWhole, IsOfRules}
use Rattle.ig_w3c_syntax.specs.Machine.{stop_of}

-- some grammar has these tokens
abbrev pub AreOfGrammar : List Token → Type 0
AreOfGrammar tokens = (g : Grammar) × ReadsAs tokens g

-- tokens that keep the rules read as a grammar
abbrev pub KeptRulesRead : Type 0
KeptRulesRead = (tokens : List Token) → KeepsRules tokens → AreOfGrammar tokens

-- tokens read as one grammar at most
abbrev pub OneReading : Type 0
OneReading = (tokens : List Token) (g h : Grammar) → ReadsAs tokens g → ReadsAs tokens h → g ≡ h

-- where the machine stops, the tokens stop following the rules
abbrev pub RunStops : Type 0
RunStops = (tokens : List Token) (k : ℕ) → stop_of tokens ≡ Some k → Stops AreOfGrammar tokens k

-- where it takes all tokens, they keep the rules
abbrev pub RunKeeps : Type 0
RunKeeps = (tokens : List Token) → stop_of tokens ≡ None → KeepsRules tokens

-- a grammar that tokens of whole characters read as has the form of rules
abbrev pub ReadsHaveForms : Type 0
ReadsHaveForms = (tokens : List Token) (g : Grammar) → ReadsAs tokens g → All IsWhole tokens → IsOfRules g

-- the rules that tokens read as are declarations of the own notation, which read without the start line too
abbrev pub DeclarationsRead : Type 0
DeclarationsRead =
    (tokens : List Token) (g : Grammar) → ReadsAs tokens g → FollowsRules (declared tokens) (record { start = None; tabs = None; decls = g.decls })
