use Rattle.ig_run_laws.proofs.Fresh.{steps_come_once}
use Rattle.ig_run_laws.proofs.laws.steps_come_once.Goals as goal

pub returns : goal.returns
returns c = steps_come_once
