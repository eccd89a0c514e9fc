use Rattle.ig_pass.proofs.FirstNamed.{found}
use Rattle.ig_pass.proofs.laws.declarations_are_found.Goals as goal

pub returns : goal.returns
returns c = found
