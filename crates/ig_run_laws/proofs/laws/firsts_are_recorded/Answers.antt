use Rattle.ig_run_laws.proofs.Fresh.{firsts_are_recorded}
use Rattle.ig_run_laws.proofs.laws.firsts_are_recorded.Goals as goal

pub returns : goal.returns
returns c = firsts_are_recorded
