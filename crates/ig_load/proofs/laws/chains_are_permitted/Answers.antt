use Rattle.ig_load.proofs.Permitting.{chains_are_permitted}
use Rattle.ig_load.proofs.laws.chains_are_permitted.Goals as goal

pub returns : goal.returns
returns c = chains_are_permitted
