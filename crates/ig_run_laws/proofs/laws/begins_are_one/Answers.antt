use Rattle.ig_run_laws.proofs.FirstCalls.{begins_are_one}
use Rattle.ig_run_laws.proofs.laws.begins_are_one.Goals as goal

pub returns : goal.returns
returns c = begins_are_one
