-- What several calls add, one after the other.
use Rattle.std.proofs.Common.{◌≡◌, ◌∙◌, ap, ℕ, List, ◌++◌, append_assoc, Ok, Err, Result}
use Rattle.std.specs.Prelude.{OnOk, is_ok, if◌then◌else◌}

-- a text is added alone
pub pushed : {T E : Type 0} (r : Result T E) (t a : List ℕ) {b : List ℕ} → b ≡ (if is_ok r then a ++ t else a) → OnOk r (b ≡ a ++ t)
pushed (Ok v) t a e = e
pushed (Err v) t a e = tt

-- three texts are added, one behind the other
pub three_added : (a x y z : List ℕ) {b c d : List ℕ} → b ≡ a ++ x → c ≡ b ++ y → d ≡ c ++ z → d ≡ a ++ (x ++ (y ++ z))
three_added a x y z {b} {c} first second third =
    third ∙ ap (λ w. w ++ z) second ∙ append_assoc b y z ∙ ap (λ w. w ++ (y ++ z)) first ∙ append_assoc a x (y ++ z)
