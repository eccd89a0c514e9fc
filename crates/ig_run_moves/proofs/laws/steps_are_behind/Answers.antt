use Rattle.ig_run_moves.proofs.Steps.{steps_behind}
use Rattle.ig_run_moves.proofs.laws.steps_are_behind.Goals as goal

pub returns : goal.returns
returns c = steps_behind
