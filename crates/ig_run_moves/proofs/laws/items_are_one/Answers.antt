use Rattle.ig_run_moves.proofs.Growing.{items_one}
use Rattle.ig_run_moves.proofs.laws.items_are_one.Goals as goal

pub returns : goal.returns
returns c = items_one
