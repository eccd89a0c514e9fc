use Rattle.ig_pass.proofs.Counting.{symbols_counted}
use Rattle.ig_pass.proofs.laws.binders_are_counted.Goals as goal

pub returns : goal.returns
returns c = symbols_counted
