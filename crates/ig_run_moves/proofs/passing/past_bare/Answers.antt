use Rattle.std.proofs.Common.{arith}
use Rattle.ig_run_moves.proofs.Pasts.{moves_bare}
use Rattle.ig_run_moves.proofs.passing.past_bare.Goals as goal

pub returns : goal.returns
returns c = moves_bare c.args.item c.args.end c.in-Some.dot (omega (arith, c.in-Some.ensures.1))
