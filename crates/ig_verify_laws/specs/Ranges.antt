-- What core grammars keep to whose forests can be written down with the numbers that the program has: integers of 64 bits,
-- and all others of 32.
use Rattle.std.specs.Prelude.{◌≢◌, ◌<◌, List, All}
use Rattle.std.specs.Int.Signed.{mag}
use Rattle.ig_text.specs.Limits.{integers_end}
use Rattle.ig_expr.specs.Expression.{Expression, Integer, Not, Negative, Binary, Of, Same, Spells, Outer, Inside}
use Rattle.ig_item.specs.Step.{Step, Test, Bind, Term, Call}
use Rattle.ig_item.specs.WellKinded.{IsWellKinded, OfEach}
use Rattle.ig_item.specs.declared.core_grammar.CoreAlt.{CoreAlt}
use Rattle.ig_item.specs.declared.core_grammar.Nonterminal.{Nonterminal}
use Rattle.ig_forest_reader.specs.Written.{IsSmallTag}

-- each integer in the expression fits 64 bits
abbrev pub HasSmallIntegers : Expression → Type 0
HasSmallIntegers (Integer n) = mag n < integers_end
HasSmallIntegers (Not a) = HasSmallIntegers a
HasSmallIntegers (Negative a) = HasSmallIntegers a
HasSmallIntegers (Binary op a b) = HasSmallIntegers a × HasSmallIntegers b
HasSmallIntegers (Of function a) = HasSmallIntegers a
HasSmallIntegers (Same a b) = HasSmallIntegers a × HasSmallIntegers b
HasSmallIntegers (Spells a word) = HasSmallIntegers a
HasSmallIntegers (Outer a b) = HasSmallIntegers a × HasSmallIntegers b
HasSmallIntegers (Inside a b) = HasSmallIntegers a × HasSmallIntegers b
HasSmallIntegers e = Unit {0}

-- so does each one in the expressions of a step
abbrev pub StepHasSmallIntegers : Step → Type 0
StepHasSmallIntegers (Test condition) = HasSmallIntegers condition
StepHasSmallIntegers (Bind name value) = HasSmallIntegers value
StepHasSmallIntegers (Term what label excluded) = Unit {0}
StepHasSmallIntegers (Call callee arguments label excluded) = All HasSmallIntegers arguments

abbrev pub AlternativeFits : CoreAlt → Type 0
AlternativeFits alternative = All StepHasSmallIntegers alternative.steps

-- and each one of a core grammar
abbrev pub IntegersFit : List Nonterminal → Type 0
IntegersFit core = OfEach core (λ n a nonterminal alternative. AlternativeFits alternative)

-- no step calls nonterminal 0
abbrev pub IsNoCallOfRoot : Step → Type 0
IsNoCallOfRoot (Test condition) = Unit {0}
IsNoCallOfRoot (Bind name value) = Unit {0}
IsNoCallOfRoot (Term what label excluded) = Unit {0}
IsNoCallOfRoot (Call callee arguments label excluded) = callee ≢ 0

abbrev pub RootIsUncalled : List Nonterminal → Type 0
RootIsUncalled core = OfEach core (λ n a nonterminal alternative. All IsNoCallOfRoot alternative.steps)

-- the numbers in tags fit 32 bits
abbrev pub TagsAreSmall : List Nonterminal → Type 0
TagsAreSmall core = OfEach core (λ n a nonterminal alternative. IsSmallTag alternative.tag)

-- so the reduced forests of the core grammar are drafts
pub record IsWritable (core : List Nonterminal) : Type 0 where
  pub well : IsWellKinded core
  pub uncalled : RootIsUncalled core
  pub tags : TagsAreSmall core
  pub integers : IntegersFit core
