use Rattle.ig_verify_laws.proofs.Law.{told}
use Rattle.ig_verify_laws.proofs.name_laws.cores_tell_names.Goals as goal

pub returns : goal.returns
returns c = told c.alternatives_are_few.ensures c.cores_are_named.ensures
