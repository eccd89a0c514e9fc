use Rattle.ig_forest.proofs.CodeItemNodes.{once_rising}
use Rattle.ig_forest.proofs.item_nodes.put_in_order.Goals as goal

pub returns-else-not-is_rising : goal.returns-else-not-is_rising
returns-else-not-is_rising c =
    once_rising c.args.entries.now.items c.as_slice.result.now c.as_slice.ensures.value (c.is_rising.ensures c.if-not-is_rising.false)
