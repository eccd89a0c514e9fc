-- The step of a core grammar that a step of the program stands for: both have the same forms.
use Rattle.ig_expr.specs.View.{expression_of}
use Rattle.ig_item.specs.Step as tree
use Rattle.ig_item.specs.declared.step.Step.{Step}
use Rattle.ig_item.specs.declared.step.Step.TheVariants.{Test, Bind, Term, Call}

abbrev pub step_of : Step → tree.Step
step_of (Test condition) = tree.Test (expression_of condition)
step_of (Bind name value) = tree.Bind name (expression_of value)
step_of (Term what label excluded) = tree.Term what label excluded
step_of (Call callee arguments label excluded) = tree.Call callee arguments label excluded
