-- Lists that grow at their end, and equal numbers.
use Rattle.std.proofs.Common.{◌≡◌, ◌⊎◌, ⊎_elim, inl, inr, ℕ, zero, suc, ◌+◌, ◌<◌, ◌≤◌, List, Some, length, Contains, refl, sym, ap, subst, arith, slice_get, length-append}
use Rattle.std.proofs.lemmas.List.Elements.{Contains-append_left, Contains-append_cases}
use Rattle.ig_text.proofs.Lists.{left_at, sides}
use Rattle.ig_run_tables.specs.Extends.{Extends}

-- two numbers are equal or not
pub same_or : (a b : ℕ) → (a ≡ b) ⊎ (a ≡ b → ⊥)
same_or zero zero = inl refl
same_or zero (suc b) = inr (λ e. omega (arith, e))
same_or (suc a) zero = inr (λ e. omega (arith, e))
same_or (suc a) (suc b) =
    ⊎_elim (λ (h : a ≡ b). inl (ap suc h)) (λ (h : a ≡ b → ⊥). inr (λ e. h (omega (arith, e)))) (same_or a b)

-- a number is below another one or not
pub below_or : (a b : ℕ) → (a < b) ⊎ (b ≤ a)
below_or a zero = inr (omega arith)
below_or zero (suc b) = inl (omega arith)
below_or (suc a) (suc b) = ⊎_elim (λ (h : a < b). inl (omega (arith, h))) (λ (h : b ≤ a). inr (omega (arith, h))) (below_or a b)

module _ {X : Type 0} where
  pub extends_at : (xs ys : List X) (k : ℕ) (x : X) → Extends xs ys → slice_get xs k ≡ Some x → slice_get ys k ≡ Some x
  extends_at xs ys k x e at = subst (λ (z : List X). slice_get z k ≡ Some x) (sym e.is) (left_at xs e.more k x at)

  pub extends_in : (xs ys : List X) (x : X) → Extends xs ys → Contains xs x → Contains ys x
  extends_in xs ys x e c = subst (λ (z : List X). Contains z x) (sym e.is) (Contains-append_left xs e.more x c)

  pub extends_cases : (xs ys : List X) (x : X) → (e : Extends xs ys) → Contains ys x → Contains xs x ⊎ Contains e.more x
  extends_cases xs ys x e c = Contains-append_cases xs e.more x (subst (λ (z : List X). Contains z x) e.is c)

  pub longer : (xs ys : List X) → Extends xs ys → length xs ≤ length ys
  longer xs ys e = let a = ap length e.is in let b = length-append xs e.more in omega (arith, a, b)

  -- a member of the longer list at a number of the shorter one
  pub front_at : (xs ys : List X) → Extends xs ys → (k : ℕ) (x : X) → k < length xs → slice_get ys k ≡ Some x →
      slice_get xs k ≡ Some x
  front_at xs ys e k x lt at =
      ⊎_elim (λ (h : slice_get xs k ≡ Some x). h)
      (λ (h : (m : ℕ) × (k ≡ length xs + m) × (slice_get e.more m ≡ Some x)). let l = h.1 in absurd (omega (arith, l, lt)))
      (sides xs e.more k x (subst (λ (z : List X). slice_get z k ≡ Some x) e.is at))
