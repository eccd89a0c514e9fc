-- Strictly sorted lists.
use Rattle.std.proofs.Common.{◌≡◌, ◌↔◌, ℕ, zero, suc, ◌<◌, List, [], ◌∷◌, Some, Less, Equal, slice_get, Contains, inl, inr, refl, sym, ap, ap₂, ◌∙◌, subst, arith}
use Rattle.std.specs.declared.cmp.Ordering.{Ordering}
use Rattle.std.specs.Cmp.{IsTotalOrder}
use Rattle.std.specs.List.Sorted.{IsStrictlySortedBy}
use Rattle.std.proofs.lemmas.Bool.{cases_order}
use Rattle.std.proofs.lemmas.Cmp.{tied_itself}
use Rattle.std.proofs.lemmas.Option.{same_Some}
use Rattle.ig_text.proofs.Lists.{at_from_contains, contains_from_at, all_at}

module _ {X : Type 0} (cmp : X → X → Ordering) where
  above : (x : X) (xs : List X) (k : ℕ) (y : X) → IsStrictlySortedBy cmp (x ∷ xs) → slice_get xs k ≡ Some y → cmp x y ≡ Less
  unfolding IsStrictlySortedBy
  above x xs k y sorted e = all_at (λ (z : X). cmp x z ≡ Less) xs k y sorted.0 e

  rest_sorted : (x : X) (xs : List X) → IsStrictlySortedBy cmp (x ∷ xs) → IsStrictlySortedBy cmp xs
  unfolding IsStrictlySortedBy
  rest_sorted x xs sorted = sorted.1

  -- a list of one is strictly sorted
  pub one_sorted : (x : X) → IsStrictlySortedBy cmp (x ∷ [])
  unfolding IsStrictlySortedBy
  one_sorted x = (tt, tt)

  -- what stands before is below
  pub rises : (xs : List X) (i j : ℕ) (x y : X) → IsStrictlySortedBy cmp xs → slice_get xs i ≡ Some x →
      slice_get xs j ≡ Some y → i < j → cmp x y ≡ Less
  rises [] i j x y sorted at_x at_y lt = cc
  rises (z ∷ xs) i zero x y sorted at_x at_y lt = absurd (omega arith)
  rises (z ∷ xs) zero (suc j) x y sorted at_x at_y lt =
      subst (λ (a : X). cmp a y ≡ Less) (same_Some z x at_x) (above z xs j y sorted at_y)
  rises (z ∷ xs) (suc i) (suc j) x y sorted at_x at_y lt =
      rises xs i j x y (rest_sorted z xs sorted) at_x at_y (omega arith)

-- a strictly sorted list is determined by its members
module _ {X : Type 0} (cmp : X → X → Ordering) (order : IsTotalOrder cmp) where
  never_below : (x : X) → cmp x x ≡ Less → ⊥
  never_below x less = let tied : cmp x x ≡ Equal = tied_itself order x in cc

  never_both : (x y : X) → cmp x y ≡ Less → cmp y x ≡ Less → ⊥
  never_both x y less back = never_below x (order.trans x y x less back)

  -- what is below stands before
  pub stands_before : (xs : List X) (i j : ℕ) (x y : X) → IsStrictlySortedBy cmp xs → slice_get xs i ≡ Some x →
      slice_get xs j ≡ Some y → cmp x y ≡ Less → i < j
  stands_before xs i j x y sorted at_x at_y less =
      elim (cases_order i j) [
        | inl e ↦
            absurd (never_below x
            (subst (λ (z : X). cmp x z ≡ Less)
            (sym (same_Some x y (sym at_x ∙ ap (slice_get xs) e ∙ at_y))) less))
        | inr (inl lt) ↦ lt
        | inr (inr lt) ↦ absurd (never_both x y less (rises cmp xs j i y x sorted at_y at_x lt))
      ]

  -- no value stands at two places
  pub one_place : (xs : List X) (i j : ℕ) (x : X) → IsStrictlySortedBy cmp xs → slice_get xs i ≡ Some x →
      slice_get xs j ≡ Some x → i ≡ j
  one_place xs i j x sorted at_i at_j =
      elim (cases_order i j) [
        | inl e ↦ e
        | inr (inl lt) ↦ absurd (never_below x (rises cmp xs i j x x sorted at_i at_j lt))
        | inr (inr lt) ↦ absurd (never_below x (rises cmp xs j i x x sorted at_j at_i lt))
      ]

  -- each member of the first list is one of the second
  abbrev Within : List X → List X → Type 0
  Within xs ys = (k : ℕ) (x : X) → slice_get xs k ≡ Some x → (m : ℕ) × (slice_get ys m ≡ Some x)

  same_head : (x : X) (xs : List X) (y : X) (ys : List X) → IsStrictlySortedBy cmp (x ∷ xs) →
      IsStrictlySortedBy cmp (y ∷ ys) → (k m : ℕ) → slice_get (y ∷ ys) k ≡ Some x → slice_get (x ∷ xs) m ≡ Some y → x ≡ y
  same_head x xs y ys sorted_x sorted_y zero m at_x at_y = sym (same_Some y x at_x)
  same_head x xs y ys sorted_x sorted_y (suc k) zero at_x at_y = same_Some x y at_y
  same_head x xs y ys sorted_x sorted_y (suc k) (suc m) at_x at_y =
      absurd (never_both x y (above cmp x xs m y sorted_x at_y) (above cmp y ys k x sorted_y at_x))

  in_rest : (x : X) (xs : List X) (y : X) (ys : List X) (k : ℕ) (z : X) → IsStrictlySortedBy cmp (x ∷ xs) → x ≡ y →
      slice_get xs k ≡ Some z → (m : ℕ) → slice_get (y ∷ ys) m ≡ Some z → (n : ℕ) × (slice_get ys n ≡ Some z)
  in_rest x xs y ys k z sorted same at_z zero e =
      absurd (never_below x
      (subst (λ (v : X). cmp x v ≡ Less) (sym (same ∙ same_Some y z e)) (above cmp x xs k z sorted at_z)))
  in_rest x xs y ys k z sorted same at_z (suc m) e = (m, e)

  same_list : (xs ys : List X) → IsStrictlySortedBy cmp xs → IsStrictlySortedBy cmp ys → Within xs ys → Within ys xs →
      xs ≡ ys
  same_list [] [] sorted_x sorted_y to from = refl
  same_list [] (y ∷ ys) sorted_x sorted_y to from = let h = (from 0 y refl).1 in cc
  same_list (x ∷ xs) [] sorted_x sorted_y to from = let h = (to 0 x refl).1 in cc
  same_list (x ∷ xs) (y ∷ ys) sorted_x sorted_y to from =
      let at_x = to 0 x refl in
      let at_y = from 0 y refl in
      let same = same_head x xs y ys sorted_x sorted_y at_x.0 at_y.0 at_x.1 at_y.1 in
      ap₂ (λ (z : X) (zs : List X). z ∷ zs) same
      (same_list xs ys (rest_sorted cmp x xs sorted_x) (rest_sorted cmp y ys sorted_y)
      (λ k z e. let h = to (suc k) z e in in_rest x xs y ys k z sorted_x same e h.0 h.1)
      (λ k z e. let h = from (suc k) z e in in_rest y ys x xs k z sorted_y (sym same) e h.0 h.1))

  -- strictly sorted lists of the same members are equal
  pub same_members : (M : X → Type 0) (xs ys : List X) → IsStrictlySortedBy cmp xs → IsStrictlySortedBy cmp ys →
      ((x : X) → Contains xs x ↔ M x) → ((x : X) → Contains ys x ↔ M x) → xs ≡ ys
  same_members M xs ys sorted_x sorted_y members_x members_y =
      same_list xs ys sorted_x sorted_y
      (λ k x e. at_from_contains ys x ((members_y x).1 ((members_x x).0 (contains_from_at xs k x e))))
      (λ k x e. at_from_contains xs x ((members_x x).1 ((members_y x).0 (contains_from_at ys k x e))))
