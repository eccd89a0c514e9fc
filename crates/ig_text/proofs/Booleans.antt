-- Truth values.
use Rattle.std.proofs.Common.{◌≡◌, ◌||◌, Bool, true, false, refl, sym, ◌∙◌, ◌&&◌, true≢false}
use Rattle.std.specs.Prelude.{◌↔◌, IsTrue}
use Rattle.std.proofs.lemmas.Bool.{and_parts, or_parts}

-- which of three stands first makes no difference
pub or_swap : (a b c : Bool) → (a || (b || c)) ≡ (b || (a || c))
or_swap true true c = refl
or_swap true false c = refl
or_swap false b c = refl

-- what holds with another one holds
pub first_true : (b c : Bool) → (b && c) ≡ true → b ≡ true
first_true b c e = (and_parts b c e).0

-- and so does the other one
pub rest_true : (b c : Bool) → (b && c) ≡ true → c ≡ true
rest_true b c e = (and_parts b c e).1

-- where neither of two holds, the second doesn't
pub rest_false : (b c : Bool) → (b || c) ≡ false → c ≡ false
rest_false b c e = (or_parts b c e).1

-- no truth value is both
pub not_both : (b : Bool) → b ≡ true → b ≡ false → ⊥
not_both b e f = true≢false (sym e ∙ f)

-- where a test fails, what it tells of doesn't hold
pub refuted : {P : Type 0} (b : Bool) → IsTrue b ↔ P → b ≡ false → P → ⊥
refuted b tells fails p = not_both b (tells.1 p) fails
