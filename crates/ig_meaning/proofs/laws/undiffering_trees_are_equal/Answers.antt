use Rattle.ig_meaning.proofs.Equality.{undiffering}
use Rattle.ig_meaning.proofs.laws.undiffering_trees_are_equal.Goals as goal

pub returns : goal.returns
returns k = undiffering
