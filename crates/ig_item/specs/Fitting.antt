-- Steps that fit what is visible before them, told one after the other.
use Rattle.std.specs.Prelude.{◌≡◌, ℕ, List, [], ◌∷◌, ◌++◌, Some}
use Rattle.ig_expr.specs.declared.kind.Kind.{Kind}
use Rattle.ig_item.specs.Step.{Step, names_of}
use Rattle.ig_item.specs.Visible.{kinds_of}
use Rattle.ig_item.specs.WellKinded.{ExpressionsFit, CallFits}
use Rattle.ig_item.specs.declared.core_grammar.Nonterminal.{Nonterminal}

-- each step fits what is visible before it, where these names with these kinds are visible before the first
pub data AreFit (core : List Nonterminal) : List (List ℕ) → List Kind → List Step → Type 0 where
  no_steps : (names : List (List ℕ)) (kinds : List Kind) → AreFit core names kinds []
  next_step : (names : List (List ℕ)) (kinds more : List Kind) (step : Step) (steps : List Step) →
      kinds_of names kinds step ≡ Some more → ExpressionsFit names kinds step → CallFits core names kinds step →
      AreFit core (names ++ names_of step) (kinds ++ more) steps → AreFit core names kinds (step ∷ steps)
