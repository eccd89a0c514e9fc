use Rattle.ig_expr.proofs.Worked.{worked_values}
use Rattle.ig_expr.proofs.evaluation.values_are_worked.Goals as goal

pub returns : goal.returns
returns c = worked_values
