use Rattle.ig_forest.proofs.Uniqueness.{root_is_there}
use Rattle.ig_forest.proofs.laws.reduced_forest_has_root.Goals as goal

pub returns : goal.returns
returns c = root_is_there
