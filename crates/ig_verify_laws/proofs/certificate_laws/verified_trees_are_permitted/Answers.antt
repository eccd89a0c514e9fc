use Rattle.ig_verify_laws.proofs.Certifying.{permitted}
use Rattle.ig_verify_laws.proofs.certificate_laws.verified_trees_are_permitted.Goals as goal

pub returns : goal.returns
returns c =
    permitted c.core_trees_are_permitted_trees.ensures c.read_grammars_are_buildable.ensures
    c.read_grammars_stay_regular.ensures c.sound_forests_unfold_to_core_trees.ensures
