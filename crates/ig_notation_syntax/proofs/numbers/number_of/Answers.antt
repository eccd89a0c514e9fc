use Rattle.std.proofs.Common.{◌*◌, ◌+◌, ◌-◌, ◌^◌, chars}
use Rattle.ig_notation_syntax.proofs.LetterSteps.{number_over, not_below}
use Rattle.ig_notation_syntax.proofs.numbers.number_of.Goals as goal

pub returns-in_err-number : goal.returns-in_err-number
returns-in_err-number c =
    rw c.from_residual.ensures
    (number_over c.digits_grow.ensures c.loop-c.number c.in-Some.c (chars c.loop-c.rest.now) (chars c.in-Some.after.now) _ c.in-Some.ensures.spelled
    (not_below (10 * c.loop-c.number + (c.in-Some.c - 48)) (2 ^ 64) c.in_err-number.ensures) c.loop-c.invariant.1)
