use Rattle.ig_verify_laws.proofs.Certifying.{cores_told}
use Rattle.ig_verify_laws.proofs.certificate_laws.read_cores_tell_names.Goals as goal

pub returns : goal.returns
returns c =
    cores_told c.cores_tell_names.ensures c.read_grammars_are_buildable.ensures c.read_grammars_stay_regular.ensures
    c.read_names_are_names.ensures
