use Rattle.ig_pass.proofs.Passing.{results_are_ready}
use Rattle.ig_pass.proofs.laws.results_are_ready.Goals as goal

pub returns : goal.returns
returns c = results_are_ready
