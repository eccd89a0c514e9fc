use Rattle.ig_run_moves.proofs.Growing.{firsts_named}
use Rattle.ig_run_moves.proofs.laws.firsts_are_named.Goals as goal

pub returns : goal.returns
returns c = firsts_named
