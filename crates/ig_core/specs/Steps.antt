-- The step of each symbol.
use Rattle.std.specs.Prelude.{ℕ, List, false, map, Option, Some, None}
use Rattle.ig_text.specs.declared.pattern.Pattern.{Pattern}
use Rattle.ig_text.specs.declared.pattern.Pattern.TheVariants as pattern
use Rattle.ig_expr.specs.Expression.{Truth}
use Rattle.ig_grammar.specs.Symbol.{Symbol, Literal, OneOf, Call, Guard, Let}
use Rattle.ig_grammar.specs.declared.filter.Filter.{Filter}
use Rattle.ig_grammar.specs.declared.filter.Filter.TheVariants.{Not}
use Rattle.ig_item.specs.Step.{Step, Test, Bind, Term}
use Rattle.ig_item.specs.Step as step
use Rattle.ig_pass.specs.Remaining.{label_of, patterns_of, main_of}

-- the step of a symbol with this label and these excluded patterns; a form that doesn't remain is never passed
abbrev pub step_with : (List ℕ → ℕ) → Option (List ℕ) → List Pattern → Symbol → Step
step_with number label excluded (Literal word) = Term (pattern.Literal word) label excluded
step_with number label excluded (OneOf class) = Term (pattern.OneOf class) label excluded
step_with number label excluded (Call name arguments) = step.Call (number name) arguments label excluded
step_with number label excluded (Guard condition) = Test condition
step_with number label excluded (Let name value) = Bind name value
step_with number label excluded x = Test (Truth false)

abbrev pub step_of : (List ℕ → ℕ) → Symbol → Step
step_of number x = step_with number (label_of x) (patterns_of x) (main_of x)

abbrev pub steps_of : (List ℕ → ℕ) → List Symbol → List Step
steps_of number xs = map (step_of number) xs

-- the pattern of an exclusion
abbrev pub exclusion : Filter → Option Pattern
exclusion (Not pattern) = Some pattern
exclusion f = None
