use Rattle.ig_run_moves.proofs.Coming.{before_terminal}
use Rattle.ig_run_moves.proofs.laws.before_terminals.Goals as goal

pub returns : goal.returns
returns c = before_terminal c.stands_before_one.ensures
