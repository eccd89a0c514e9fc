use Rattle.ig_notation_terms.proofs.LimitParts.{there, past, one_misfit, one_fits, all_fit}
use Rattle.ig_notation_terms.proofs.limits.numbers_fit.Goals as goal

pub loop-placed-init : goal.loop-placed-init
loop-placed-init c = record { back = λ a. a; forth = λ a. a }

pub returns-then-not-number_fits : goal.returns-then-not-number_fits
returns-then-not-number_fits c =
    one_misfit _ _ _ _ _ c.loop-placed.invariant (there _ _ _ c.loop-placed-test.true) c.number_fits.ensures c.if-not-number_fits.true

pub loop-placed-preserved : goal.loop-placed-preserved
loop-placed-preserved c =
    one_fits _ _ _ _ _ c.loop-placed.invariant (there _ _ _ c.loop-placed-test.true) c.number_fits.ensures c.if-not-number_fits.false

pub returns : goal.returns
returns c = all_fit _ _ c.loop-placed.invariant (past _ _ c.loop-placed-test.false)
