use Rattle.std.proofs.Common.{inr, sym, subst, ap, ◌∙◌, ◌∷◌, ◌++◌, [], Contains}
use Rattle.ig_run_tables.specs.InstanceSet.{AreInBuckets}
use Rattle.ig_run_tables.proofs.Instances.{once_more}
use Rattle.ig_run_tables.proofs.instance_set.InstanceSet.add.Goals as goal

pub invariant_of-self-2 : goal.invariant_of-self-2
invariant_of-self-2 c =
    record {
      once = once_more c.self.inside.keys.items c.push-2.new.self.items c.args.key c.self.invariant.once
          (λ h. c.requires (subst (λ z. Contains z c.args.key) c.self.view_is h))
          (c.in_ok-push-2.ensures.items ∙ ap (λ z. z ++ c.args.key ∷ []) c.reserve.ensures.items);
      found = inr
          (subst (λ z. AreInBuckets z c.push.new.self.heads.items c.push.new.self.earlier.items c.push.new.self.mask)
          (sym (c.in_ok-push-2.ensures.items ∙ ap (λ z. z ++ c.args.key ∷ []) (sym c.as_slice.ensures.value)))
          (c.in_ok-push.ensures.ok c.as_slice.result.now c.in_ok-make_room.ensures.ok));
    }
