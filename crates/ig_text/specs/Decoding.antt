-- Which text bytes are, and why bytes are none.
use Rattle.std.specs.Prelude.{◌≡◌, ℕ, ◌<◌, ◌≤◌, ◌⊎◌, List, length, IsUtf8, chars}
use Rattle.std.specs.Str.{IsValidUpTo}
use Rattle.ig_text.specs.Input.{Input}
use Rattle.ig_text.specs.Limits.{most_bytes, most_characters}
use Rattle.ig_text.specs.declared.text.TextFault.{TextFault}
use Rattle.ig_text.specs.declared.text.TextFault.TheVariants.{NotUtf8, TooLong, Memory}

-- the bytes are UTF-8 within the limits, and the text is their characters, with tabs of this width
pub record IsDecoded (width : ℕ) (bytes : List ℕ) (text : Input) : Type 0 where
  pub utf8 : IsUtf8 bytes
  pub characters : text.characters ≡ chars bytes
  pub tabs : text.tabs ≡ width
  pub few_bytes : length bytes ≤ most_bytes
  pub few_characters : length text.characters ≤ most_characters

-- the bytes aren't UTF-8, and n is the length of their longest valid prefix
pub record IsNotUtf8 (bytes : List ℕ) (n : ℕ) : Type 0 where
  pub few_bytes : length bytes ≤ most_bytes
  pub not_utf8 : IsUtf8 bytes → ⊥
  pub longest : IsValidUpTo bytes n

-- when each refusal comes; want of memory may come at any time
abbrev pub IsFaulty : List ℕ → TextFault → Type 0
IsFaulty bytes (NotUtf8 at) = IsNotUtf8 bytes at
IsFaulty bytes TooLong = (most_bytes < length bytes) ⊎ (IsUtf8 bytes × (most_characters < length (chars bytes)))
IsFaulty bytes Memory = Unit {0}
