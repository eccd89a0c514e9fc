use Rattle.ig_verify_laws.proofs.Sounding.{reduced_is_sound}
use Rattle.ig_verify_laws.proofs.reduced_laws.reduced_forests_are_sound.Goals as goal

pub returns : goal.returns
returns c =
    reduced_is_sound c.environments_fit.ensures c.items_are_in_text.ensures c.items_are_reached_by_trees.ensures
