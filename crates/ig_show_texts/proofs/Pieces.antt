-- Numbers in pieces of lines, and texts that are added one behind the other.
use Rattle.std.proofs.Common.{◌≡◌, ◌∙◌, ap, ℕ, ◌+◌, ◌<◌, ◌≤◌, List, ◌++◌, length, arith, append_assoc, length-append}
use Rattle.std.specs.Fmt.{decimal}
use Rattle.std.proofs.lemmas.Fmt.{length-decimal-le}

-- a number of 32 bits has at most ten digits
pub short_decimal : (n : ℕ) → n < 4294967296 → length (decimal n) ≤ 10
short_decimal n fits = length-decimal-le 10 n (omega arith) (omega arith) (omega arith)

-- and so makes a text at most ten bytes longer
pub ten_more : (n : ℕ) (old : List ℕ) {text : List ℕ} → n < 4294967296 → text ≡ decimal n ++ old → length text ≤ 10 + length old
ten_more n old {text} fits written = rw (written, length-append) (omega (arith, short_decimal n fits))

-- two texts are added, one behind the other
pub two_added : (a x y : List ℕ) {b c : List ℕ} → b ≡ a ++ x → c ≡ b ++ y → c ≡ a ++ (x ++ y)
two_added a x y first second = second ∙ ap (λ z. z ++ y) first ∙ append_assoc a x y
