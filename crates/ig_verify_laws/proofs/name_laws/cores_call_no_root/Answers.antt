use Rattle.ig_verify_laws.proofs.Law.{uncalled}
use Rattle.ig_verify_laws.proofs.name_laws.cores_call_no_root.Goals as goal

pub returns : goal.returns
returns c = uncalled
