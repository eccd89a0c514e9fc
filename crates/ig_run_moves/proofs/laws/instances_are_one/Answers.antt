use Rattle.ig_run_moves.proofs.Growing.{instances_one}
use Rattle.ig_run_moves.proofs.laws.instances_are_one.Goals as goal

pub returns : goal.returns
returns c = instances_one
