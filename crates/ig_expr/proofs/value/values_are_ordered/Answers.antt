use Rattle.ig_expr.specs.Ordered.{value_as}
use Rattle.ig_expr.proofs.value.values_are_ordered.Goals as goal

pub returns : goal.returns
returns c = value_as
