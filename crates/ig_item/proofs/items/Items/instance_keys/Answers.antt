use Rattle.std.proofs.Common.{sym, subst}
use Rattle.ig_item.specs.Tables.{HaveValues}
use Rattle.ig_item.proofs.items.Items.instance_keys.Goals as goal

pub returns-clause-values : goal.returns-clause-values
returns-clause-values c = subst (HaveValues _) (sym c.as_slice.ensures.value) (subst (λ z. HaveValues z.environments c.self.inside.keys.items) c.self.view_is c.self.invariant.0)
