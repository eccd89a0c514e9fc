use Rattle.ig_run_moves.proofs.Coming.{before_bind}
use Rattle.ig_run_moves.proofs.laws.before_binds.Goals as goal

pub returns : goal.returns
returns c = before_bind c.stands_before_one.ensures
