-- Tests of numbers, and a sum with nothing.
use Rattle.std.proofs.Common.{◌≡◌, ℕ, ◌+◌, ◌≤◌, true, false, ltb, arith}
use Rattle.std.proofs.lemmas.Bool.Decides.{nat_tests}
use Rattle.std.specs.Prelude.{◌==◌}

-- some number lies between the two
pub far : (a b : ℕ) → ltb (a + 1) b ≡ true → a + 2 ≤ b
far a b e = grind (arith, nat_tests)

-- no number lies between the two
pub near : (a b : ℕ) → ltb (a + 1) b ≡ false → b ≤ a + 1
near a b e = grind (arith, nat_tests)

-- a number is tested to be itself
pub itself_tested : (k : ℕ) → (k == k) ≡ true
itself_tested k = grind (arith, nat_tests)

-- numbers that are tested to be the same are the same
pub same_number : (a b : ℕ) → (a == b) ≡ true → a ≡ b
same_number a b h = grind (arith, nat_tests)

-- nothing and a number is the number
pub from_zero : (n : ℕ) → 0 + n ≡ n
from_zero n = omega arith
