-- Which bytes are a name, and which line is a job's.
use Rattle.std.proofs.Common.{◌≡◌, ℕ, Bool, true, false, List, Option, Some, None, cond, if◌then◌else◌, IsUtf8, refl, sym, ap}
use Rattle.std.specs.Str.{is_utf8}
use Rattle.std.proofs.lemmas.Bool.{and_from, and_right}
use Rattle.std.proofs.lemmas.Str.{IsUtf8-from_is_utf8, is_utf8-from_IsUtf8}
use Rattle.ig_turns.specs.Lists.{is_plain, is_name}

-- the bytes, where they are a name
abbrev pub name_in : List ℕ → Option (List ℕ)
name_in bytes = if is_name bytes then Some bytes else None

pub named : (bytes : List ℕ) → is_plain bytes ≡ true → IsUtf8 bytes → Some bytes ≡ name_in bytes
named bytes plain utf8 = sym (ap (λ b. cond b (Some bytes) None) (and_from (is_plain bytes) (is_utf8 bytes) plain (is_utf8-from_IsUtf8 bytes utf8)))

pub not_utf8 : (bytes : List ℕ) → (IsUtf8 bytes → ⊥) → None ≡ name_in bytes
not_utf8 bytes h = sym (ap (λ b. cond b (Some bytes) None) (and_right (is_plain bytes) (is_utf8 bytes) (go (is_utf8 bytes) refl)))
  where
    go : (b : Bool) → is_utf8 bytes ≡ b → is_utf8 bytes ≡ false
    go true e = absurd (h (IsUtf8-from_is_utf8 bytes e))
    go false e = e
