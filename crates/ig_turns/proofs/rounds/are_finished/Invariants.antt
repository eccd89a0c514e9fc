use Rattle.std.proofs.Common.{◌≡◌, ℕ, ◌<◌, slice_get}
use Rattle.std.specs.Option.{IsSomeAnd}
use Rattle.ig_turns.proofs.rounds.are_finished.Given as goal

-- the jobs so far are finished
abbrev pub invariant-loop-job : goal.invariant-loop-job
invariant-loop-job g l = (k : ℕ) → k < l.job → IsSomeAnd (slice_get l.turns k) (λ x. g.J.Job.left x ≡ 0)
