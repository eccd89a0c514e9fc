use Rattle.std.proofs.Common.{refl}
use Rattle.ig_notation_syntax.proofs.signs.with_equals.Goals as goal

pub returns-then-c-eq61 : goal.returns-then-c-eq61
returns-then-c-eq61 c = (c.in-Some.ensures.whole, rw (c.in-Some.ensures.spelled, c.if-c-eq61.true) refl)
