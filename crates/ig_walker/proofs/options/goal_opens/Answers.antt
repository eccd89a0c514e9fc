use Rattle.ig_walker.proofs.Deciding.{same_goal, leaf_decided}
use Rattle.ig_walker.proofs.options.goal_opens.Goals as goal

pub returns-in-Node : goal.returns-in-Node
returns-in-Node c = same_goal c.args.forest.now _ c.args.goal _ c.in-Node.is c.node_opens.ensures

pub returns-in-Item : goal.returns-in-Item
returns-in-Item c = same_goal c.args.forest.now _ c.args.goal _ c.in-Item.is c.item_opens.ensures

pub returns-in-Leaf : goal.returns-in-Leaf
returns-in-Leaf c = leaf_decided c.args.forest.now c.args.goal _ c.in-Leaf.is
