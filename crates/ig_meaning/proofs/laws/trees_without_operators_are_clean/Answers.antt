use Rattle.ig_meaning.proofs.Clean.{clean_tree}
use Rattle.ig_meaning.proofs.laws.trees_without_operators_are_clean.Goals as goal

pub returns : goal.returns
returns k = clean_tree
