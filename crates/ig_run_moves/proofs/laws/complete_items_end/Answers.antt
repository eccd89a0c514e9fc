use Rattle.ig_run_moves.proofs.Coming.{complete_ends}
use Rattle.ig_run_moves.proofs.laws.complete_items_end.Goals as goal

pub returns : goal.returns
returns c = complete_ends
