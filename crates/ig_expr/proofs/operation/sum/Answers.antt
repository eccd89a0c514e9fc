use Rattle.std.proofs.Common.{rules}
use Rattle.ig_expr.proofs.operation.sum.Goals as goal

pub returns : goal.returns
returns c = search rules
