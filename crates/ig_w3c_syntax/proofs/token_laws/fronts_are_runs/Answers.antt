use Rattle.ig_w3c_syntax.proofs.Runs.{front_is}
use Rattle.ig_w3c_syntax.proofs.token_laws.fronts_are_runs.Goals as goal

pub returns : goal.returns
returns c = front_is
