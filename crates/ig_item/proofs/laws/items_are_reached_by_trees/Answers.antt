use Rattle.ig_item.proofs.Coming.{items_by_trees}
use Rattle.ig_item.proofs.laws.items_are_reached_by_trees.Goals as goal

pub returns : goal.returns
returns c = items_by_trees
