-- Cells in buckets, chained: each names the cell before it in its bucket. Heads and `onward` are places + 1, counted on from a base; what is
-- at most the base is none, since `-` stops at 0.
use Rattle.std.specs.Prelude.{◌≡◌, ℕ, zero, suc, ◌+◌, ◌-◌, ◌<◌, ◌≤◌, List, length, slice_index_or, if◌then◌else◌, nat_eq}

module _ {C : Type 0} (bucket : C → ℕ) (none : C) where
  -- the place + 1 of the last of the first n cells that is in that bucket; 0 where there is none
  abbrev pub last : List C → ℕ → ℕ → ℕ
  last cells b zero = 0
  last cells b (suc n) = if nat_eq (bucket (slice_index_or cells n none)) b then suc n else last cells b n

pub record AreChained {C : Type 0} (bucket : C → ℕ) (none : C) (onward : ℕ → ℕ) (mask base : ℕ) (heads : List ℕ) (cells : List C) : Type 0 where
  pub head : (b : ℕ) → b ≤ mask → slice_index_or heads b 0 - base ≡ last bucket none cells b (length cells)
  pub next : (k : ℕ) → k < length cells → onward k - base ≡ last bucket none cells (bucket (slice_index_or cells k none)) k
  pub within : (b : ℕ) → b ≤ mask → slice_index_or heads b 0 ≤ base + length cells
  pub all : length heads ≡ mask + 1

-- how far a walk has come that looks for a key of that bucket: it stands before the place `at`
pub record Walks {C K : Type 0} (bucket : C → ℕ) (none : C) (key_of : C → K) (base : ℕ) (cells : List C) (key : K) (home at : ℕ) : Type 0 where
  pub passed : (m : ℕ) → at - base ≤ m → m < length cells → key_of (slice_index_or cells m none) ≡ key → ⊥
  pub within : at - base ≤ length cells
  pub in_bucket : (k : ℕ) → at - base ≡ suc k → bucket (slice_index_or cells k none) ≡ home
