use Rattle.ig_run_laws.proofs.LeastNames.{ended_runs_have_ways}
use Rattle.ig_run_laws.proofs.laws.ended_runs_have_ways.Goals as goal

pub returns : goal.returns
returns c = ended_runs_have_ways
