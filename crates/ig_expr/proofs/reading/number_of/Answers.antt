use Rattle.std.proofs.Common.{arith, ◌∙◌, sym}
use Rattle.ig_expr.proofs.Numbers.{number_ends, number_goes_on, number_read}
use Rattle.ig_expr.proofs.reading.number_of.Goals as goal

pub returns-in_err-number : goal.returns-in_err-number
returns-in_err-number c =
    c.from_residual-in_err-number.ensures ∙
    sym (number_ends c.args.text.now c.args.s c.loop-position.number c.loop-position.position c.in_ok-char_at.field-0 (omega arith) (omega arith) c.loop-position.invariant (sym c.in_ok-char_at.ensures) (omega arith) (sym c.in_err-number.ensures))

pub loop-position-preserved : goal.loop-position-preserved
loop-position-preserved c =
    number_goes_on c.args.text.now c.args.s c.loop-position.number c.in_ok-number.number c.loop-position.position c.in_ok-char_at.field-0 c.loop-position.invariant (sym c.in_ok-char_at.ensures) (omega arith) (sym c.in_ok-number.ensures)

pub returns : goal.returns
returns c =
    c.signed.ensures ∙
    number_read c.args.text.now c.args.s c.loop-position.number c.loop-position.position (omega arith) (omega arith) c.loop-position.invariant (omega arith)
