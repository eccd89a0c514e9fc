use Rattle.std.proofs.Common.{refl}
use Rattle.ig_expr.proofs.expression.binary.Goals as goal

pub returns : goal.returns
returns c = refl
