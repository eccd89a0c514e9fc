use Rattle.ig_verify_laws.proofs.Values.{values_small}
use Rattle.ig_verify_laws.proofs.reduced_laws.values_are_small.Goals as goal

pub returns : goal.returns
returns c = values_small
