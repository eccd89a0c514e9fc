use Rattle.ig_meaning.proofs.Inversion.{inverted}
use Rattle.ig_meaning.proofs.laws.derivations_invert.Goals as goal

pub returns : goal.returns
returns k = inverted
