-- The step before which an item stands.
use Rattle.std.proofs.Common.{◌≡◌, ℕ, List, Some, sym, ap, ◌∙◌}
use Rattle.ig_item.specs.Items.{Item}
use Rattle.ig_item.specs.Step.{Step}
use Rattle.ig_item.specs.declared.core_grammar.Nonterminal.{Nonterminal}
use Rattle.ig_run_moves.specs.Rules.{Stands, step_at}
use Rattle.ig_engine.specs.Given as laws

pub stands_there : (given : laws.Tables) (core : List Nonterminal) (it : Item) (n : ℕ) (step tree : Step) → n ≡ it.instance.nonterminal →
    step_at core n it.alternative it.dot ≡ Some step → step ≡ tree → Stands core it tree
stands_there given core it n step tree is at same =
    (given.steps_are_behind core it tree).1 (ap (λ (z : ℕ). step_at core z it.alternative it.dot) (sym is) ∙ at ∙ ap Some same)
