use Rattle.ig_meaning.proofs.Roots.{root_is_whole}
use Rattle.ig_meaning.proofs.laws.permitted_trees_are_whole.Goals as goal

pub returns : goal.returns
returns k = root_is_whole
