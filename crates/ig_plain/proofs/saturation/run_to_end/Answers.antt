use Rattle.std.proofs.Common.{◌≡◌, length, arith, subst}
use Rattle.ig_plain.specs.Run.{IsRun}
use Rattle.ig_plain.specs.Trail.{HasTrail}
use Rattle.ig_plain.proofs.Instances.{at_exit}
use Rattle.ig_plain.proofs.Arrivals.{arrives}
use Rattle.ig_plain.proofs.Arriving.{arrives_on}
use Rattle.ig_plain.proofs.saturation.run_to_end.Goals as goal

pub returns-in_err-start-clause-run : goal.returns-in_err-start-clause-run
returns-in_err-start-clause-run c =
    at_exit c.from_residual.result _ _ c.in_err-start.field-0.0 c.from_residual.ensures.1 (c.in_err-start.ensures.run c.args.context.now.text.now)

pub take_all-requires-clause-run : goal.take_all-requires-clause-run
take_all-requires-clause-run c = c.in_ok-start.ensures.run c.args.context.now.text.now

pub take_all-requires-clause-trail : goal.take_all-requires-clause-trail
take_all-requires-clause-trail c = c.in_ok-start.ensures.trail c.args.context.now.text.now

pub take_all-requires-in-loop-before-clause-run : goal.take_all-requires-in-loop-before-clause-run
take_all-requires-in-loop-before-clause-run c =
    arrives c.args.context.now.core.now c.args.context.now.text.now c.args.context.now.budget c.loop-before.before c.loop-before.run.found c.arrive.new.found c.loop-before.run.waiting
    c.loop-before.invariant.run c.in_ok-arrive.ensures.arrives

pub take_all-requires-in-loop-before-clause-trail : goal.take_all-requires-in-loop-before-clause-trail
take_all-requires-in-loop-before-clause-trail c =
    arrives_on c.args.context.now.core.now c.args.context.now.text.now c.args.context.now.budget c.loop-before.before c.loop-before.run.found c.arrive.new.found c.loop-before.run.waiting
    c.loop-before.run.trail c.arrive.new.trail c.loop-before.invariant.run c.in_ok-arrive.ensures.arrives c.in_ok-arrive.ensures.ways
    c.loop-before.invariant.trail c.in_ok-arrive.ensures.returned

pub returns-clause-run : goal.returns-clause-run
returns-clause-run c =
    let e : c.loop-before.before ≡ length c.args.context.now.text.now.characters =
    omega (arith, c.loop-before-test.false, c.loop-before.auto.before-end, c.last_position-before-end.ensures) in
    subst (λ z. IsRun c.args.context.now.core.now c.args.context.now.text.now c.args.context.now.budget z (length c.loop-before.run.found.here.items) c.loop-before.run.found c.loop-before.run.waiting) e
    c.loop-before.invariant.run

pub returns-clause-trail : goal.returns-clause-trail
returns-clause-trail c =
    let e : c.loop-before.before ≡ length c.args.context.now.text.now.characters =
    omega (arith, c.loop-before-test.false, c.loop-before.auto.before-end, c.last_position-before-end.ensures) in
    subst
    (λ z. HasTrail c.args.context.now.core.now c.args.context.now.text.now z (length c.loop-before.run.found.here.items) c.loop-before.run.found c.loop-before.run.waiting c.loop-before.run.trail)
    e c.loop-before.invariant.trail
