use Rattle.ig_run_moves.proofs.Growing.{names_kept}
use Rattle.ig_run_moves.proofs.laws.names_are_kept.Goals as goal

pub returns : goal.returns
returns c = names_kept
