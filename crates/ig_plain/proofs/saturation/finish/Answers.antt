use Rattle.std.proofs.Common.{◌<◌, length, sym, subst}
use Rattle.ig_item.specs.Tables.{HaveValues}
use Rattle.ig_plain.proofs.saturation.finish.Goals as goal

pub items_of-requires : goal.items_of-requires
items_of-requires c =
    let named = c.close.new.found.named in
    record {
      values = subst (HaveValues c.close.new.found.envs.keys) (sym c.into_vec.ensures) named.values;
      instances = λ x i. subst (λ z. x.instance < length z) (sym c.into_vec.ensures) (named.done x i).instance;
      environments = λ x i. (named.done x i).env;
    }
