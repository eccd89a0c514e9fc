-- Lookups in lists that are set at a place, and how many parts have no height.
use Rattle.std.proofs.Common.{◌≡◌, ◌⊎◌, inl, inr, ℕ, zero, suc, ◌+◌, ◌<◌, ◌≤◌, List, [], ◌∷◌, ◌++◌, length, get_or, set, refl, sym, ap, arith, length-append}
use Rattle.ig_heights.specs.Rules.{rise, height_at}
use Rattle.ig_heights.specs.Work.{unset}

pub rise_cases : (n p : ℕ) → ((p < n) × (rise n p ≡ 1)) ⊎ ((n ≤ p) × (rise n p ≡ 0))
rise_cases zero p = inr (omega arith, refl)
rise_cases (suc n) zero = inl (omega arith, refl)
rise_cases (suc n) (suc p) =
    elim (rise_cases n p) [
      | inl h ↦ let l = h.0 in inl (omega (arith, l), h.1)
      | inr h ↦ let l = h.0 in inr (omega (arith, l), h.1)
    ]

pub rise_low : (n p : ℕ) → rise n p ≤ 1
rise_low n p =
    elim (rise_cases n p) [ inl h ↦ let e = h.1 in omega (arith, e) | inr h ↦ let e = h.1 in omega (arith, e) ]

pub rise_one : (n p : ℕ) → p < n → rise n p ≡ 1
rise_one n p less = elim (rise_cases n p) [ inl h ↦ h.1 | inr h ↦ let l = h.0 in omega (arith, l, less) ]

pub rise_none : (n p : ℕ) → n ≤ p → rise n p ≡ 0
rise_none n p less = elim (rise_cases n p) [ inl h ↦ let l = h.0 in omega (arith, l, less) | inr h ↦ h.1 ]

module _ {X : Type 0} where
  pub set_there : (xs : List X) (k m : ℕ) (x d : X) → (m ≡ k → ⊥) → get_or (set xs k x) m d ≡ get_or xs m d
  set_there [] k m x d other = refl
  set_there (y ∷ xs) zero zero x d other = absurd (other refl)
  set_there (y ∷ xs) zero (suc m) x d other = refl
  set_there (y ∷ xs) (suc k) zero x d other = refl
  set_there (y ∷ xs) (suc k) (suc m) x d other = set_there xs k m x d (λ e. other (ap suc e))

pub unset_set : (limit n : ℕ) (hs : List ℕ) (p h : ℕ) → p < length hs → limit < height_at hs p → h ≤ limit →
    unset limit n (set hs p h) + rise n p ≡ unset limit n hs
unset_set limit zero hs p h within none low = refl
unset_set limit (suc n) [] p h within none low = absurd (omega (arith, within))
unset_set limit (suc n) (x ∷ hs) zero h within none low =
    let a = rise_none h limit low in let b = rise_one x limit none in omega (arith, a, b)
unset_set limit (suc n) (x ∷ hs) (suc p) h within none low =
    let i = unset_set limit n hs p h (omega (arith, within)) none low in omega (arith, i)

pub unset_low : (limit n : ℕ) (hs : List ℕ) → unset limit n hs ≤ n
unset_low limit zero hs = omega arith
unset_low limit (suc n) [] = omega arith
unset_low limit (suc n) (x ∷ hs) = let i = unset_low limit n hs in let r = rise_low x limit in omega (arith, i, r)

-- a part without a height counts
pub unset_some : (limit n : ℕ) (hs : List ℕ) (p : ℕ) → p < n → p < length hs → limit < height_at hs p →
    1 ≤ unset limit n hs
unset_some limit n hs p less within none =
    let e = unset_set limit n hs p 0 within none (omega arith) in let r = rise_one n p less in omega (arith, e, r)

pub long_push : {X : Type 0} (xs : List X) (x : X) → length (xs ++ x ∷ []) ≡ suc (length xs)
long_push xs x = let e = length-append xs (x ∷ []) in omega (arith, e)

pub one_more : (n : ℕ) → n + 1 ≡ suc n
one_more n = omega arith

pub read_zero : (xs : List ℕ) (i a : ℕ) → i < length xs → a ≡ get_or xs i a → get_or xs i 0 ≡ a
read_zero [] i a less e = absurd (omega (arith, less))
read_zero (x ∷ xs) zero a less e = sym e
read_zero (x ∷ xs) (suc i) a less e = read_zero xs i a (omega (arith, less)) e
