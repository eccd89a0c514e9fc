use Rattle.ig_expr.proofs.Equality.{values_eq-Decides}
use Rattle.ig_expr.proofs.value.equal_values_are_one.Goals as goal

pub returns : goal.returns
returns c = values_eq-Decides
