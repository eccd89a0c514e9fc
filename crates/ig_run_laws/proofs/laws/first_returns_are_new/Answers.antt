use Rattle.ig_run_laws.proofs.FirstCalls.{first_returns_are_new}
use Rattle.ig_run_laws.proofs.laws.first_returns_are_new.Goals as goal

pub returns : goal.returns
returns c = first_returns_are_new
