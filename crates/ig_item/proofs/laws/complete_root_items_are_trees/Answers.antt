use Rattle.ig_item.proofs.Coming.{trees_by_items}
use Rattle.ig_item.proofs.laws.complete_root_items_are_trees.Goals as goal

pub returns : goal.returns
returns c = trees_by_items
