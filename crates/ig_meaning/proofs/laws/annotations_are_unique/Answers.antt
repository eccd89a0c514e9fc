use Rattle.ig_meaning.proofs.Equality.{unique}
use Rattle.ig_meaning.proofs.laws.annotations_are_unique.Goals as goal

pub returns : goal.returns
returns k = unique
