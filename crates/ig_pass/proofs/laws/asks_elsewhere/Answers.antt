use Rattle.ig_pass.proofs.Asking.{asks_elsewhere}
use Rattle.ig_pass.proofs.laws.asks_elsewhere.Goals as goal

pub returns : goal.returns
returns c = asks_elsewhere
