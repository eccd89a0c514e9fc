use Rattle.ig_heights.proofs.Depths.{trees_are_no_higher_than_nodes}
use Rattle.ig_heights.proofs.laws.trees_are_no_higher_than_nodes.Goals as goal

pub returns : goal.returns
returns c = trees_are_no_higher_than_nodes
