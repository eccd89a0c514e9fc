use Rattle.ig_pass.proofs.Chaining.{same_trees}
use Rattle.ig_pass.proofs.laws.same_trees_is_an_equivalence.Goals as goal

pub returns : goal.returns
returns c = same_trees
