use Rattle.ig_forest.proofs.Uniqueness.{only_one}
use Rattle.ig_forest.proofs.laws.reduced_forest_is_unique.Goals as goal

pub returns : goal.returns
returns c = only_one
