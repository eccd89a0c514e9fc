-- How two numbers lie to one another.
use Rattle.std.proofs.Common.{◌≡◌, ◌≢◌, ◌⊎◌, ℕ, ◌+◌, ◌<◌, ◌≤◌, arith}

-- a number is at most another one, or above it
pub le_or_lt : (a b : ℕ) → (a ≤ b) ⊎ (b < a)
le_or_lt a b = grind arith

-- what is below the next number is below this one, or is it
pub below_or_at : (a k : ℕ) → a < k + 1 → (a < k) ⊎ (a ≡ k)
below_or_at a k lt = grind arith

-- numbers of which neither is below the other are equal
pub neither_below : (a b : ℕ) → (a < b → ⊥) → (b < a → ⊥) → a ≡ b
neither_below a b low high = grind arith

-- numbers that can't differ are equal
pub equal_unless : (a b : ℕ) → (a ≢ b → ⊥) → a ≡ b
equal_unless a b f = grind arith
