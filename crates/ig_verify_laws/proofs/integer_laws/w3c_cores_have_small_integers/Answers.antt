use Rattle.ig_verify_laws.proofs.InCores.{w3c_cores_fit}
use Rattle.ig_verify_laws.proofs.integer_laws.w3c_cores_have_small_integers.Goals as goal

pub returns : goal.returns
returns c = w3c_cores_fit c.read_grammars_are_regular.ensures
