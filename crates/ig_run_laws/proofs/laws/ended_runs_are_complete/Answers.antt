use Rattle.ig_run_laws.proofs.Budgets.{ended_runs_are_complete}
use Rattle.ig_run_laws.proofs.laws.ended_runs_are_complete.Goals as goal

pub returns : goal.returns
returns c = ended_runs_are_complete
