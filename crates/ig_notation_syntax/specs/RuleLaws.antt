-- Laws of the rules of the notation.
use Rattle.std.specs.Prelude.{◌≡◌, ◌≢◌, ℕ, ◌<◌, List, [], ◌∷◌, Some, None, All, Contains, length}
use Rattle.ig_text.specs.Limits.{numbers_end}
use Rattle.ig_notation_syntax.specs.Token.{Token}
use Rattle.ig_notation_syntax.specs.Rules.{FollowsRules}
use Rattle.ig_notation_syntax.specs.Stops.{Stops}
use Rattle.ig_grammar.specs.Regular.{AlternativesStandWell, OfEachLevel, IsRegular}
use Rattle.ig_grammar.specs.declared.declaration.DeclKind.TheVariants.{Plain}
use Rattle.ig_grammar.specs.declared.declaration.Decl.{Decl}
use Rattle.ig_grammar.specs.declared.grammar.Grammar.{Grammar}
use Rattle.ig_grammar.specs.Counts.{HasFewerThan}
use Rattle.ig_notation_syntax.specs.Machine.{grammar, run}
use Rattle.ig_notation_syntax.specs.Written.{AlternativesAreWritten, HasText}
use Rattle.ig_notation_syntax.specs.Names.{HasName, HasNames}

-- some grammar has these tokens
abbrev pub AreOfGrammar : List Token → Type 0
AreOfGrammar tokens = (g : Grammar) × FollowsRules tokens g

-- tokens read as one grammar at most
abbrev pub OneReading : Type 0
OneReading = (tokens : List Token) (g h : Grammar) → FollowsRules tokens g → FollowsRules tokens h → g ≡ h

-- where the machine stops, the tokens stop following the rules
abbrev pub RunStops : Type 0
RunStops = (tokens : List Token) (k : ℕ) → run 0 (grammar ∷ []) tokens ≡ Some k → Stops AreOfGrammar tokens k

-- the machine takes all tokens that follow the rules
abbrev pub ReadRuns : Type 0
ReadRuns = (tokens : List Token) (g : Grammar) → FollowsRules tokens g → run 0 (grammar ∷ []) tokens ≡ None

-- tokens stop following the rules at one place at most
abbrev pub StopsOnce : Type 0
StopsOnce = (tokens : List Token) (k l : ℕ) → Stops AreOfGrammar tokens k → Stops AreOfGrammar tokens l → k ≡ l

-- a grammar that tokens read as has only forms that can be written
abbrev pub ReadsAreWritten : Type 0
ReadsAreWritten =
    (tokens : List Token) (g : Grammar) → FollowsRules tokens g →
    OfEachLevel AlternativesAreWritten g × ((decl : Decl) → Contains g.decls decl → decl.kind ≢ Plain)

-- labels, marks and filters stand where they may in it, and no literal is empty
abbrev pub ReadsStandWell : Type 0
ReadsStandWell =
    (tokens : List Token) (g : Grammar) → FollowsRules tokens g → All HasText tokens → OfEachLevel AlternativesStandWell g

-- its names are those of the tokens
abbrev pub ReadsAreNamed : Type 0
ReadsAreNamed = (tokens : List Token) (g : Grammar) → FollowsRules tokens g → All HasName tokens → HasNames g

-- it has no more declarations, levels, alternatives or symbols than tokens
abbrev pub ReadsAreCounted : Type 0
ReadsAreCounted =
    (tokens : List Token) (g : Grammar) (most : ℕ) → FollowsRules tokens g → length tokens < most → HasFewerThan most g

-- so it is regular
abbrev pub ReadsAreRegular : Type 0
ReadsAreRegular =
    (tokens : List Token) (g : Grammar) → FollowsRules tokens g → All HasText tokens → length tokens < numbers_end → IsRegular g
