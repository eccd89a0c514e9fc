use Rattle.ig_meaning.proofs.Completeness.{complete}
use Rattle.ig_meaning.proofs.laws.annotations_are_complete.Goals as goal

pub returns : goal.returns
returns k = complete
