use Rattle.ig_item.proofs.Coming.{instance_trees}
use Rattle.ig_item.proofs.laws.complete_items_are_trees.Goals as goal

pub returns : goal.returns
returns c = instance_trees
