use Rattle.std.proofs.Common.{rules}
use Rattle.ig_expr.proofs.operation.remainder.Goals as goal

pub returns-else-b-eqminus1 : goal.returns-else-b-eqminus1
returns-else-b-eqminus1 c = search rules
