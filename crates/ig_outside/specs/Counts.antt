-- Counts of 64 bits, which stand still at their last value.
use Rattle.std.specs.Prelude.{◌≡◌, ℕ, ◌+◌, ◌<◌, ◌⊎◌, min}

-- the last value of a count
abbrev pub last_count : ℕ
last_count = 18446744073709551615

-- the count after n, which at the last value is n again
abbrev pub risen : ℕ → ℕ
risen n = min (n + 1) last_count

-- a count rose from `old` to `new`, or stood at its last value and could not
abbrev pub Rose : ℕ → ℕ → Type 0
Rose old new = (old < new) ⊎ ((old ≡ last_count) × (new ≡ last_count))
