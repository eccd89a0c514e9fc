use Rattle.std.proofs.Common.{◌≡◌, inr, sym, subst, slice_get, Some, length, ap, [], ◌∷◌, refl, arith}
use Rattle.ig_text.proofs.Lists.{right_at}
use Rattle.ig_run_tables.proofs.Instances.{once_more}
use Rattle.ig_item.specs.WellKinded.{NoneTwice}
use Rattle.ig_run_tables.proofs.instance_set.InstanceSet.enter.Goals as goal

pub returns-clause-once : goal.returns-clause-once
returns-clause-once c = once_more c.args.self.now c.add.new.self c.args.key (subst NoneTwice c.self.view_is c.self.invariant.once) c.in_default.ensures.none c.in_ok-add.ensures.ok

pub returns-clause-enters : goal.returns-clause-enters
returns-clause-enters c =
    record {
      is = inr c.in_ok-add.ensures.ok;
      there = subst (λ z. slice_get z c.in_ok-place.place ≡ Some c.args.key) (sym c.in_ok-add.ensures.ok)
          (right_at c.args.self.now (c.args.key ∷ []) c.in_ok-place.place 0 c.args.key
          (let l = ap length c.self.view_is in omega (arith, l, c.in_ok-place.ensures, c.len.ensures)) refl);
    }
