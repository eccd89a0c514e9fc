use Rattle.ig_meaning.proofs.Annotation.{derivations_annotated}
use Rattle.ig_meaning.proofs.laws.derivations_are_annotated.Goals as goal

pub returns : goal.returns
returns k = derivations_annotated
