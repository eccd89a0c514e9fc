-- Members by their numbers, which count from 1.
use Rattle.std.proofs.Common.{◌≡◌, ℕ, zero, suc, ◌-◌, ◌≤◌, List, None, Option, Some, refl, sym, ap, ◌∙◌, arith, length, option_copied, slice_get}
use Rattle.std.specs.Slice.{IsItemAt}
use Rattle.std.proofs.lemmas.Option.{slice_get_past, slice_get_read}
use Rattle.ig_item.specs.Core.{numbered}

-- no member has a number below 1
pub no_number : {A : Type 0} (xs : List A) (n : ℕ) (found : Option A) → found ≡ None → (1 ≤ n → ⊥) → found ≡ numbered xs n
no_number xs zero found nothing below = nothing
no_number xs (suc k) found nothing below = absurd (below (omega arith))

copied_at : {A : Type 0} (xs : List A) (i : ℕ) (found : _) → IsItemAt xs i found → option_copied found ≡ slice_get xs i
copied_at xs i None is = sym (slice_get_past xs i is.3)
copied_at xs i (Some x) is = sym (slice_get_read xs (length xs) i x.now refl is.3.0 is.1)

-- the member of a number from 1 stands at the place before
pub numbered_there : {A : Type 0} (xs : List A) (n place : ℕ) (found : _) → 1 ≤ n → place ≡ n - 1 → IsItemAt xs place found →
    option_copied found ≡ numbered xs n
numbered_there xs zero place found above is there = absurd (omega (arith, above))
numbered_there xs (suc k) place found above is there =
    copied_at xs place found there ∙ ap (slice_get xs) (let e : place ≡ k = omega (arith, is) in e)
