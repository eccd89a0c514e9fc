use Rattle.ig_query.proofs.Instances.{never_missing, its_instance}
use Rattle.ig_query.proofs.item.instance_of_item.Goals as goal

pub unreachable-requires : goal.unreachable-requires
unreachable-requires c =
    never_missing c.args.items.now c.args.item.now c.instance.result c.instance.ensures c.len-number.ensures.tables c.requires c.in-None.is

pub returns : goal.returns
returns c = its_instance c.args.items.now c.args.item.now c.instance.result c.instance.ensures c.in-Some.instance c.in-Some.is
