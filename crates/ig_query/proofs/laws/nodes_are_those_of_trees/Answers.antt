use Rattle.ig_query.proofs.InTrees.{nodes_are_those_of_trees}
use Rattle.ig_query.proofs.laws.nodes_are_those_of_trees.Goals as goal

pub returns : goal.returns
returns c = nodes_are_those_of_trees
