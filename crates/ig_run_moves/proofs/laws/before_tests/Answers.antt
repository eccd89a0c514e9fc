use Rattle.ig_run_moves.proofs.Coming.{before_test}
use Rattle.ig_run_moves.proofs.laws.before_tests.Goals as goal

pub returns : goal.returns
returns c = before_test c.stands_before_one.ensures
