use Rattle.std.proofs.Common.{◌≡◌, ◌<◌, ◌≤◌, ℕ, All, vec_len}
use Rattle.ig_turns.specs.Turns.{events_of}
use Rattle.ig_turns.proofs.rounds.round_of.Given as goal

-- the jobs so far have their turn
abbrev pub invariant-loop-job : goal.invariant-loop-job
invariant-loop-job l = record {
  named : All (λ turn. turn.job < l.count) l.round.items;
  each : (job : ℕ) → job < l.job → l.events ≤ events_of job l.round.items;
  len : vec_len l.round ≡ l.job;
}
