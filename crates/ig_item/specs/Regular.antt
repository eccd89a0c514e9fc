-- Which core grammars are regular: no literal in them is empty.
use Rattle.std.specs.Prelude.{List, ◌∷◌, ◌++◌, All}
use Rattle.std.specs.List.{flat_map}
use Rattle.ig_text.specs.declared.pattern.Pattern.{Pattern}
use Rattle.ig_text.specs.Pattern.{HasNoEmptyLiteral}
use Rattle.ig_expr.specs.Expression.{patterns_in}
use Rattle.ig_item.specs.Step.{Step, Test, Bind, Term, Call}
use Rattle.ig_item.specs.WellKinded.{OfEach}
use Rattle.ig_item.specs.declared.core_grammar.Nonterminal.{Nonterminal}

-- the patterns of a step: what it matches, what it excludes, and those in its expressions
abbrev pub patterns_of : Step → List Pattern
patterns_of (Test condition) = patterns_in condition
patterns_of (Bind name value) = patterns_in value
patterns_of (Term what label excluded) = what ∷ excluded
patterns_of (Call callee arguments label excluded) = flat_map patterns_in arguments ++ excluded

abbrev pub IsRegularStep : Step → Type 0
IsRegularStep step = All HasNoEmptyLiteral (patterns_of step)

-- no step has an empty literal
abbrev pub IsRegular : List Nonterminal → Type 0
IsRegular core = OfEach core (λ n a nonterminal alternative. All IsRegularStep alternative.steps)
