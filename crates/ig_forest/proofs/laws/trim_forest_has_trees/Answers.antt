use Rattle.ig_forest.proofs.Usage.{trim_has_trees}
use Rattle.ig_forest.proofs.laws.trim_forest_has_trees.Goals as goal

pub returns : goal.returns
returns c = trim_has_trees
