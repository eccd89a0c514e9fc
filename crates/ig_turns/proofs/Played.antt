-- What events make of a job, one after another.
use Rattle.std.proofs.Common.{ℕ, ◌+◌, arith}
use Rattle.ig_turns.specs.Played.{Played}

module _ {J : Type 0} (taken left : J → ℕ) where
  -- no event leaves a job as it was
  pub none_played : (x : J) → Played taken left 0 x x
  none_played x = record {
    rises = omega arith;
    at_most = omega arith;
    short = λ h. absurd (omega (arith, h));
    falls = omega arith;
  }

  -- events after events
  pub both_played : (m n : ℕ) (x y z : J) → Played taken left m x y → Played taken left n y z → Played taken left (m + n) x z
  both_played m n x y z p q = record {
    rises = omega (arith, p.rises, q.rises);
    at_most = omega (arith, p.at_most, q.at_most);
    short = λ h. grind (arith, h, p, q);
    falls = omega (arith, p.falls, q.falls);
  }
