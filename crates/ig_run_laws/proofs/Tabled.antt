-- Tables that name one another.
use Rattle.std.proofs.Common.{◌<◌, List, length, Contains, sym, subst}
use Rattle.std.proofs.lemmas.List.{length-map}
use Rattle.ig_text.specs.Limits.{numbers_end}
use Rattle.ig_expr.specs.declared.value.Value.{Value}
use Rattle.ig_item.specs.Tables.{AreTables, instance_by, tables_by}
use Rattle.ig_item.specs.declared.items.InstanceKey.{InstanceKey}
use Rattle.ig_item.specs.declared.items.Item as stored

-- the tables of the items, each with few members
pub are_tables : (keys : List InstanceKey) (envs : List (List Value)) (items : List stored.Item) →
    ((x : stored.Item) → Contains items x → x.instance < length keys) →
    ((x : stored.Item) → Contains items x → x.env < length envs) →
    length keys < numbers_end → length envs < numbers_end → length items < numbers_end → AreTables (tables_by keys envs items)
are_tables keys envs items instances environments few_keys few_envs few_items =
    record {
      instances_there = λ x c. subst (λ n. x.instance < n) (sym (length-map keys (instance_by envs))) (instances x c);
      environments_there = environments;
      few_instances = subst (λ n. n < numbers_end) (sym (length-map keys (instance_by envs))) few_keys;
      few_environments = few_envs;
      few_items = few_items;
    }
