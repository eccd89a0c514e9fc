use Rattle.ig_run_moves.proofs.Coming.{before_call}
use Rattle.ig_run_moves.proofs.laws.before_calls.Goals as goal

pub returns : goal.returns
returns c = before_call c.stands_before_one.ensures
