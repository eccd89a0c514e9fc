use Rattle.ig_item.proofs.PartLists.{values_there, instance_got}
use Rattle.ig_item.proofs.items.Items.instance.Goals as goal

pub returns-in_err-values : goal.returns-in_err-values
returns-in_err-values c =
    absurd
    (values_there c.self.inside.envs c.self.inside.keys.items _ c.args.k c.in_ok-key.key c.self.invariant.0 c.as_slice.ensures.value
    c.in_ok-key.ensures c.in_err-values.ensures)

pub returns : goal.returns
returns c =
    instance_got c.self.inside.envs c.self.inside.keys.items _ c.args.k c.in_ok-key.key c.in_ok-values.values.now _ c.as_slice.ensures.value
    c.in_ok-key.ensures c.in_ok-values.ensures (Rattle.std.proofs.Common.ap (λ z. z.instances) c.self.view_is)
