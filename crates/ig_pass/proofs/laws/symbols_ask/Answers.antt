use Rattle.ig_pass.proofs.Asking.{symbols_ask}
use Rattle.ig_pass.proofs.laws.symbols_ask.Goals as goal

pub returns : goal.returns
returns c = symbols_ask
