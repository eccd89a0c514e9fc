use Rattle.std.proofs.Common.{refl}
use Rattle.ig_plain.proofs.Growth.{grows_not, grows_here}
use Rattle.ig_plain.proofs.Extending.{extends_itself}
use Rattle.ig_plain.proofs.Adding.{added_only, added_once, added_there}
use Rattle.ig_plain.proofs.Additions.{adds_exit, adds_here}
use Rattle.ig_plain.proofs.Naming.{pushed_here}
use Rattle.ig_plain.proofs.adds.push.Goals as goal

pub invariant_of-found : goal.invariant_of-found
invariant_of-found c = record { named = pushed_here c.args.found.now.named c.args.item c.requires.named _ _ c.push.ensures.items }

pub returns-in_default-clause-adds : goal.returns-in_default-clause-adds
returns-in_default-clause-adds c =
    record {
      grows = grows_not c.args.item.position _ c.args.found.now _ (extends_itself c.args.found.now.envs.keys) (λ h. h) refl refl
          c.in_default.ensures.items refl;
      has = tt;
      within = tt;
      fault = λ e. cc e;
    }

pub returns-in_err-push-clause-adds : goal.returns-in_err-push-clause-adds
returns-in_err-push-clause-adds c =
    let one = added_only c.args.found.now.here.items c.push.new.self.items c.args.item c.in-Ok.ensures.items in
    adds_exit c.args.item.position _ c.args.context.now.budget c.args.found.now _ c.from_residual.result c.from_residual.ensures.1
    (grows_here c.args.item.position c.args.found.now _ c.args.item refl refl refl refl refl one.extends one.only
    (added_once c.args.found.now.here.items c.push.new.self.items c.args.item c.in-Ok.ensures.items c.requires.new))

pub returns-clause-adds : goal.returns-clause-adds
returns-clause-adds c =
    let one = added_only c.args.found.now.here.items c.push.new.self.items c.args.item c.in-Ok.ensures.items in
    adds_here c.args.item.position c.args.context.now.budget c.args.found.now _ c.args.item c.keep_within.result
    (grows_here c.args.item.position c.args.found.now _ c.args.item refl refl refl refl refl one.extends one.only
    (added_once c.args.found.now.here.items c.push.new.self.items c.args.item c.in-Ok.ensures.items c.requires.new))
    refl refl (added_there c.args.found.now.here.items c.push.new.self.items c.args.item c.in-Ok.ensures.items) c.keep_within.ensures.within
    c.keep_within.ensures.fault
