-- A number is read digit by digit, as long as it fits 64 bits.
use Rattle.std.specs.Prelude.{ℕ, ◌+◌, ◌-◌, ◌*◌, nat_lt, if◌then◌else◌, Option, Some, None}
use Rattle.ig_text.specs.Limits.{unsigned_end}
use Rattle.ig_text.specs.Words.{is_digit}

-- the value of a digit
abbrev pub digit_of : ℕ → Option ℕ
digit_of c = if is_digit c then Some (c - 48) else None

abbrev pub with_digit : ℕ → Option ℕ → Option ℕ
with_digit n None = None
with_digit n (Some d) = if nat_lt (10 * n + d) unsigned_end then Some (10 * n + d) else None

-- the number with the digit behind its own
abbrev pub appended : ℕ → ℕ → Option ℕ
appended n c = with_digit n (digit_of c)
