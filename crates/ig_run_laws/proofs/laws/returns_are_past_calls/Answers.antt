use Rattle.ig_run_laws.proofs.Forms.{returns_are_past_calls}
use Rattle.ig_run_laws.proofs.laws.returns_are_past_calls.Goals as goal

pub returns : goal.returns
returns c = returns_are_past_calls
