use Rattle.std.proofs.Common.{arith}
use Rattle.ig_forest_reader.proofs.LinesLeft.{told_true, told_false}
use Rattle.ig_forest_reader.proofs.Reading.{NoDigitAt, all_read, none_at_end, nothing_read, next_digit, none_too_large, number_small, number_exact, number_told}
use Rattle.ig_forest_reader.proofs.fronts.read_number.Goals as goal

pub loop-place-init : goal.loop-place-init
loop-place-init c = nothing_read c.args.bytes.now

pub returns-then-not-is_digit : goal.returns-then-not-is_digit
returns-then-not-is_digit c =
    let stop : NoDigitAt c.args.bytes.now c.loop-place.place = λ within. told_false _ _ _ c.is_digit.ensures c.if-not-is_digit.true in
    record {
      small = number_small c.args.bytes.now c.loop-place.number c.loop-place.place c.number_before.result c.loop-place.invariant c.number_before.ensures;
      exact = number_exact c.args.bytes.now c.loop-place.number c.loop-place.place c.number_before.result c.loop-place.invariant stop c.number_before.ensures;
      told = λ n us small s e. number_told c.args.bytes.now c.loop-place.number c.loop-place.place c.number_before.result n us c.loop-place.invariant stop c.number_before.ensures small s e;
    }

pub returns-in_err-number-clause-told : goal.returns-in_err-number-clause-told
returns-in_err-number-clause-told c n us small s e =
    absurd (none_too_large c.args.bytes.now us n c.loop-place.number c.loop-place.place small s e c.loop-place-test.true
    (told_true _ _ _ c.is_digit.ensures c.if-not-is_digit.false) c.loop-place.invariant c.in_err-number.ensures)

pub loop-place-preserved : goal.loop-place-preserved
loop-place-preserved c =
    next_digit c.args.bytes.now c.loop-place.number c.loop-place.place c.in_ok-number.number c.loop-place-test.true
    c.in_ok-number.ensures.0 c.in_ok-number.ensures.1 c.in_ok-number.ensures.2 c.loop-place.invariant

pub returns : goal.returns
returns c =
    let past = c.loop-place-test.false in
    let reading = all_read c.args.bytes.now c.loop-place.number c.loop-place.place (omega (arith, past)) c.loop-place.invariant in
    let stop = none_at_end c.args.bytes.now in
    record {
      small = number_small c.args.bytes.now c.loop-place.number _ c.number_before-2.result reading c.number_before-2.ensures;
      exact = number_exact c.args.bytes.now c.loop-place.number _ c.number_before-2.result reading stop c.number_before-2.ensures;
      told = λ n us small s e. number_told c.args.bytes.now c.loop-place.number _ c.number_before-2.result n us reading stop c.number_before-2.ensures small s e;
    }
