use Rattle.std.proofs.Common.{◌≡◌, map}
use Rattle.ig_turns.specs.Rounds.{total}
use Rattle.ig_turns.proofs.rounds.play_out.Given as goal

-- what the jobs will give stays
abbrev pub invariant-loop-turns : goal.invariant-loop-turns
invariant-loop-turns g l = map g.J.Job.outcome l.turns ≡ map g.J.Job.outcome l.fn.turns

abbrev pub decreases-loop-turns : goal.decreases-loop-turns
decreases-loop-turns g l = total g.J.Job.left l.turns
