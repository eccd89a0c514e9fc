use Rattle.std.proofs.Common.{arith}
use Rattle.ig_run_moves.proofs.Pasts.{past_none}
use Rattle.ig_run_moves.proofs.passing.past.Goals as goal

pub returns-in-None-clause-past : goal.returns-in-None-clause-past
returns-in-None-clause-past c = past_none c.args.envs.now.keys c.args.item c.args.bound c.args.end c.in-Some.dot c.requires.there c.in-None.is (omega (arith, c.in-Some.ensures.1))
