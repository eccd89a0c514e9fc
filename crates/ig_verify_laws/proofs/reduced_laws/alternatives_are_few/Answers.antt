use Rattle.ig_verify_laws.proofs.Few.{alternatives_few}
use Rattle.ig_verify_laws.proofs.reduced_laws.alternatives_are_few.Goals as goal

pub returns : goal.returns
returns c = alternatives_few
