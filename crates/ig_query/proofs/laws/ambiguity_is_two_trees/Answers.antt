use Rattle.ig_query.proofs.OneTree.{ambiguity_is_two_trees}
use Rattle.ig_query.proofs.laws.ambiguity_is_two_trees.Goals as goal

pub returns : goal.returns
returns c = ambiguity_is_two_trees c.depths_are_heights.ensures c.trim_forest_has_trees.ensures
