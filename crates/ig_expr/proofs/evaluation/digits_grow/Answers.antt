use Rattle.ig_expr.proofs.Numbers.{grows}
use Rattle.ig_expr.proofs.evaluation.digits_grow.Goals as goal

pub returns : goal.returns
returns c = grows
