-- What stands behind a dot of an alternative.
use Rattle.std.specs.Prelude.{ℕ, zero, suc, List, [], ◌∷◌, Option, Some, None, option_and_then}
use Rattle.ig_item.specs.Step.{Step}
use Rattle.ig_item.specs.View.{step_of}
use Rattle.ig_item.specs.Core.{alternative_at}
use Rattle.ig_item.specs.Items.{Item}
use Rattle.ig_item.specs.declared.core_grammar.Nonterminal.{Nonterminal}
use Rattle.ig_item.specs.declared.dot.Behind as program
use Rattle.ig_item.specs.declared.dot.Behind.TheVariants as variant

-- a step, or the end of the alternative
pub data Behind : Type 0 where
  Next : (step : Step) → Behind
  End : Behind

-- what a value of the program stands for
abbrev pub behind_of : program.Behind → Behind
behind_of (variant.Next step) = Next (step_of step.now)
behind_of variant.End = End

-- behind that dot of these steps; none where there is no such dot
abbrev pub behind_dot : List Step → ℕ → Option Behind
behind_dot [] zero = Some End
behind_dot [] (suc dot) = None
behind_dot (step ∷ steps) zero = Some (Next step)
behind_dot (step ∷ steps) (suc dot) = behind_dot steps dot

-- behind a dot of alternative a of nonterminal n; none where one of the three numbers isn't there
abbrev pub behind_at : List Nonterminal → ℕ → ℕ → ℕ → Option Behind
behind_at core n a dot = option_and_then (λ alternative. behind_dot alternative.steps dot) (alternative_at core n a)

-- behind the item's dot
abbrev pub behind_item : List Nonterminal → Item → Option Behind
behind_item core it = behind_at core it.instance.nonterminal it.alternative it.dot
