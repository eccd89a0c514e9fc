use Rattle.ig_run_moves.proofs.Coming.{calls_one}
use Rattle.ig_run_moves.proofs.laws.calls_are_one.Goals as goal

pub returns : goal.returns
returns c = calls_one c.stands_before_one.ensures
