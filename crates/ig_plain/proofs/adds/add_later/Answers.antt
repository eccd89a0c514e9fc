use Rattle.std.proofs.Common.{refl}
use Rattle.ig_plain.specs.Found.{means}
use Rattle.ig_plain.proofs.Additions.{later_added}
use Rattle.ig_plain.proofs.Extending.{extends_itself}
use Rattle.ig_plain.proofs.Naming.{pushed_later}
use Rattle.ig_plain.proofs.Recording.{ok_of, records_later}
use Rattle.ig_plain.proofs.adds.add_later.Goals as goal

pub invariant_of-found : goal.invariant_of-found
invariant_of-found c = record { named = pushed_later c.args.found.now.named c.args.item c.requires.named _ _ c.push.ensures.items }

pub returns-clause-adds : goal.returns-clause-adds
returns-clause-adds c =
    λ p behind.
    later_added p c.args.context.now.budget _ c.args.found.now _ c.args.item c.keep_within.result
    (record {
      envs = extends_itself c.args.found.now.envs.keys;
      envs_once = λ h. h;
      keys = refl;
      done = refl;
      here = refl;
      item = c.args.item;
      later = c.in-Ok.ensures.items;
      behind = behind;
      is = refl;
    }) c.keep_within.ensures.within c.keep_within.ensures.fault

pub returns-clause-ways : goal.returns-clause-ways
returns-clause-ways c =
    ok_of c.keep_within.result
    (records_later c.args.prev c.args.item (means c.args.found.now c.args.item) c.args.found.now _ c.args.trail.now _
    (extends_itself c.args.found.now.envs.keys) refl refl refl c.in-Ok.ensures.items refl refl c.in-Ok-push.ensures.items refl)
