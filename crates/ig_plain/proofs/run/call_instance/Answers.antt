use Rattle.std.proofs.Common.{refl}
use Rattle.ig_plain.proofs.Entered.{new_firsts, new_on, old_on}
use Rattle.ig_plain.proofs.Instances.{entered_old, entered_new, refused_new, at_exit}
use Rattle.ig_plain.proofs.Naming.{entered}
use Rattle.ig_plain.proofs.run.call_instance.Goals as goal

pub invariant_of-run : goal.invariant_of-run
invariant_of-run c =
    record { named = entered c.args.run.now.found.named _ c.args.key c.enter.result c.requires.env c.enter.ensures.enters c.enter.ensures.refused }

pub returns-in_err-add_firsts-clause-enters : goal.returns-in_err-add_firsts-clause-enters
returns-in_err-add_firsts-clause-enters c =
    λ text k r reach.
    at_exit c.from_residual-in_err-add_firsts.result _ _ c.in_err-add_firsts.field-0.0 c.from_residual-in_err-add_firsts.ensures.1
    (refused_new c.args.context.now.core.now text c.args.context.now.budget k c.args.key c.args.run.now.found c.args.run.now.waiting r _ c.in_ok-callee.callee refl
    refl refl refl
    c.in_ok-callee.ensures.once (c.in_ok-callee.ensures.new c.if-is_new.true) reach c.add_firsts.new.found c.in_err-add_firsts.field-0.0
    c.in_err-add_firsts.ensures.adds)

pub returns-in_ok-add_firsts-clause-enters : goal.returns-in_ok-add_firsts-clause-enters
returns-in_ok-add_firsts-clause-enters c =
    λ text k r reach.
    entered_new c.args.context.now.core.now text c.args.context.now.budget k c.args.key c.args.run.now.found c.args.run.now.waiting r _ c.in_ok-callee.callee refl
    refl refl refl
    c.in_ok-callee.ensures.once (c.in_ok-callee.ensures.new c.if-is_new.true) reach c.add_firsts.new.found c.add_called.new.waiting
    c.in_ok-add_called.ensures.called c.in_ok-add_called.ensures.callers c.in_ok-add_firsts.ensures.adds

pub returns-else-is_new-clause-enters : goal.returns-else-is_new-clause-enters
returns-else-is_new-clause-enters c =
    λ text k r reach.
    entered_old c.args.context.now.core.now text c.args.context.now.budget k c.args.key c.args.run.now.found c.args.run.now.waiting r _ c.in_ok-callee.callee refl
    refl refl refl
    (c.in_ok-callee.ensures.old c.if-is_new.false) c.in_ok-callee.ensures.enters.there

pub add_firsts-requires-clause-new : goal.add_firsts-requires-clause-new
add_firsts-requires-clause-new c =
    new_firsts c.args.context.now.core.now c.args.run.now.found
    (record {
      done = c.args.run.now.found.done;
      here = c.args.run.now.found.here;
      later = c.args.run.now.found.later;
      envs = c.args.run.now.found.envs;
      keys = c.enter.new.self;
      named = entered c.args.run.now.found.named _ c.args.key c.enter.result c.requires.env c.enter.ensures.enters c.enter.ensures.refused;
    })
    c.args.key c.in_ok-callee.callee c.requires.envs_once c.in_ok-callee.ensures.once
    (c.in_ok-callee.ensures.new c.if-is_new.true) refl refl refl refl

pub returns-in_ok-add_firsts-clause-trail : goal.returns-in_ok-add_firsts-clause-trail
returns-in_ok-add_firsts-clause-trail c =
    λ text k r h.
    new_on c.args.context.now.core.now text c.args.context.now.budget k c.args.key c.args.run.now.found c.args.run.now.waiting c.args.run.now.trail r h _
    c.in_ok-callee.callee refl refl refl refl
    c.in_ok-callee.ensures.once (c.in_ok-callee.ensures.new c.if-is_new.true) c.add_firsts.new.found c.add_called.new.waiting c.add_firsts.new.trail
    c.in_ok-add_called.ensures.called c.in_ok-add_called.ensures.callers c.in_ok-add_firsts.ensures.adds c.in_ok-add_firsts.ensures.ways

pub returns-else-is_new-clause-trail : goal.returns-else-is_new-clause-trail
returns-else-is_new-clause-trail c =
    λ text k r h.
    old_on c.args.context.now.core.now text c.args.context.now.budget k c.args.key c.args.run.now.found c.args.run.now.waiting c.args.run.now.trail r h _ refl refl refl
    refl
    (c.in_ok-callee.ensures.old c.if-is_new.false)
