use Rattle.ig_run_laws.proofs.Beginning.{runs_begin}
use Rattle.ig_run_laws.proofs.laws.runs_begin.Goals as goal

pub returns : goal.returns
returns c = runs_begin c.reachable_is_closed.ensures
