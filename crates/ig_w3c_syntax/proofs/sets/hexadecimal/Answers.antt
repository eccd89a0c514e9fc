use Rattle.std.proofs.Common.{chars}
use Rattle.ig_w3c_syntax.proofs.Reading.{shorter}
use Rattle.ig_w3c_syntax.proofs.Determined.{too_large}
use Rattle.ig_w3c_syntax.proofs.sets.hexadecimal.Goals as goal

pub loop-c-smaller : goal.loop-c-smaller
loop-c-smaller c = shorter c.loop-c.rest.now c.in-Some.c c.in-Some.after.now c.in-Some.ensures

pub returns-in_err-number : goal.returns-in_err-number
returns-in_err-number c =
    rw c.from_residual.ensures
    (too_large c.loop-c.number _ (chars c.loop-c.rest.now) (chars c.in-Some.after.now) c.in-Some.c c.in-Some.ensures.spelled
    c.in_err-number.ensures c.loop-c.invariant.1)
