use Rattle.std.proofs.Common.{ap}
use Rattle.ig_expr.specs.Expression.{Variable}
use Rattle.ig_levels.proofs.symbols.hand_on_right.Goals as goal

pub returns : goal.returns
returns c = ap Variable c.in_ok-bound.ensures
