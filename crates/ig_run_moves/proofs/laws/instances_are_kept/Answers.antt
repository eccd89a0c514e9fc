use Rattle.ig_run_moves.proofs.Growing.{instances_kept}
use Rattle.ig_run_moves.proofs.laws.instances_are_kept.Goals as goal

pub returns : goal.returns
returns c = instances_kept
