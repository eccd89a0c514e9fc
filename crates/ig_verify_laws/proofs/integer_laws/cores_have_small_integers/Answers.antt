use Rattle.ig_verify_laws.proofs.InCores.{cores_fit}
use Rattle.ig_verify_laws.proofs.integer_laws.cores_have_small_integers.Goals as goal

pub returns : goal.returns
returns c = cores_fit c.read_grammars_are_regular.ensures
