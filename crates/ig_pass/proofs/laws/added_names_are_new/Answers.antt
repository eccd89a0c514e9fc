use Rattle.ig_pass.proofs.AddedNames.{added_names}
use Rattle.ig_pass.proofs.laws.added_names_are_new.Goals as goal

pub returns : goal.returns
returns c = added_names
