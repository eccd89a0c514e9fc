use Rattle.ig_run_moves.proofs.Steps.{ends_complete}
use Rattle.ig_run_moves.proofs.laws.ends_are_complete.Goals as goal

pub returns : goal.returns
returns c = ends_complete c.environments_fit.ensures
