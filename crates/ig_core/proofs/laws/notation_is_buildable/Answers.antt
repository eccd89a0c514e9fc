use Rattle.ig_core.proofs.Noted.{notation_buildable}
use Rattle.ig_core.proofs.laws.notation_is_buildable.Goals as goal

pub returns : goal.returns
returns c = notation_buildable c.added_names_are_new.ensures
