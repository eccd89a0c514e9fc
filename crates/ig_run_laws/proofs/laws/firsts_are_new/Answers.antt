use Rattle.ig_run_laws.proofs.Fresh.{firsts_are_new}
use Rattle.ig_run_laws.proofs.laws.firsts_are_new.Goals as goal

pub returns : goal.returns
returns c = firsts_are_new
