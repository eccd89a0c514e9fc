use Rattle.ig_forest_tables.specs.Views.{node_view}
use Rattle.ig_verify.specs.Sound.{ChoiceFits}
use Rattle.ig_verify.proofs.Below.{EachBelow}
use Rattle.ig_verify.proofs.nodes.choices_fit.Given as goal

abbrev pub invariant-loop-choice : goal.invariant-loop-choice
invariant-loop-choice l = EachBelow (ChoiceFits l.core l.draft (node_view l.node)) l.choices l.choice-index
