-- Lists that grow at their end.
use Rattle.std.proofs.Common.{◌≡◌, ◌⊎◌, ⊎_elim, ℕ, zero, suc, ◌+◌, ◌≤◌, ◌<◌, List, [], ◌∷◌, ◌++◌, length, Contains, Some, refl, sym, ap, ◌∙◌, subst, arith, map, reverse, slice_get, length-append, append_assoc}
use Rattle.std.proofs.lemmas.List.{append-nil, map-append, reverse-append}
use Rattle.std.proofs.lemmas.List.Sorted.{IsPermutation-reverse, IsPermutation-sym, Contains-permutation}
use Rattle.std.proofs.lemmas.Option.{same_Some, slice_get_within}
use Rattle.std.proofs.lemmas.List.Elements.{Contains-append_left, Contains-append_cases}
use Rattle.ig_text.proofs.Lists.{at_from_contains, left_at, mapped_at, sides, get_within, contains_from_at, place_cases, unmapped_in}
use Rattle.ig_item.specs.WellKinded.{NoneTwice}
use Rattle.ig_run_tables.specs.Extends.{Extends}

module _ {X : Type 0} where
  abbrev pub extends_itself : (xs : List X) → Extends xs xs
  extends_itself xs = record { more = []; is = sym (append-nil xs) }

  abbrev pub extends_by : (xs ys zs : List X) → ys ≡ xs ++ zs → Extends xs ys
  extends_by xs ys zs e = record { more = zs; is = e }

  abbrev pub extends_same : (xs ys : List X) → ys ≡ xs → Extends xs ys
  extends_same xs ys e = record { more = []; is = e ∙ sym (append-nil xs) }

  pub longer : (xs ys : List X) → Extends xs ys → length xs ≤ length ys
  longer xs ys e = let n = ap length e.is ∙ length-append xs e.more in omega (arith, n)

  pub extends_at : (xs ys : List X) (k : ℕ) (x : X) → Extends xs ys → slice_get xs k ≡ Some x → slice_get ys k ≡ Some x
  extends_at xs ys k x e at = subst (λ (z : List X). slice_get z k ≡ Some x) (sym e.is) (left_at xs e.more k x at)

  pub extends_in : (xs ys : List X) (x : X) → Extends xs ys → Contains xs x → Contains ys x
  extends_in xs ys x e c = subst (λ (z : List X). Contains z x) (sym e.is) (Contains-append_left xs e.more x c)

  abbrev pub extends_then : (xs ys zs : List X) → Extends xs ys → Extends ys zs → Extends xs zs
  extends_then xs ys zs a b =
      record { more = a.more ++ b.more; is = b.is ∙ ap (λ (z : List X). z ++ b.more) a.is ∙ append_assoc xs a.more b.more }

  pub extends_cases : (xs ys : List X) (x : X) → (e : Extends xs ys) → Contains ys x → Contains xs x ⊎ Contains e.more x
  extends_cases xs ys x e c = Contains-append_cases xs e.more x (subst (λ (z : List X). Contains z x) e.is c)

  -- what is in the longer list at a place within the shorter one is in that, too
  pub extends_within : (xs ys : List X) (k : ℕ) (x : X) → Extends xs ys → k < length xs → slice_get ys k ≡ Some x →
      slice_get xs k ≡ Some x
  extends_within xs ys k x e lt at =
      let y = get_within xs k lt in
      y.1 ∙ ap Some (same_Some y.0 x (sym (extends_at xs ys k y.0 e y.1) ∙ at))

  -- what is added stands at a place behind the shorter list
  pub extends_late : (xs ys : List X) (k : ℕ) (x : X) → (e : Extends xs ys) → length xs ≤ k → slice_get ys k ≡ Some x → Contains e.more x
  extends_late xs ys k x e le at =
      ⊎_elim
      (λ (h : slice_get xs k ≡ Some x). absurd (let l = slice_get_within xs k x h in omega (arith, l, le)))
      (λ (h : (m : ℕ) × (k ≡ length xs + m) × (slice_get e.more m ≡ Some x)). contains_from_at e.more h.0 x h.2)
      (sides xs e.more k x (subst (λ (z : List X). slice_get z k ≡ Some x) e.is at))

  -- one more at the end, which wasn't there
  pub none_twice_longer : (xs : List X) (x : X) → NoneTwice xs → (Contains xs x → ⊥) → NoneTwice (xs ++ x ∷ [])
  none_twice_longer xs x once new i j y e f =
      ⊎_elim
      (λ (p : slice_get xs i ≡ Some y).
      ⊎_elim (λ (q : slice_get xs j ≡ Some y). once i j y p q)
      (λ (q : (j ≡ length xs) × (x ≡ y)). absurd (new (subst (Contains xs) (sym q.1) (contains_from_at xs i y p))))
      (place_cases xs x y j f))
      (λ (p : (i ≡ length xs) × (x ≡ y)).
      ⊎_elim (λ (q : slice_get xs j ≡ Some y). absurd (new (subst (Contains xs) (sym p.1) (contains_from_at xs j y q))))
      (λ (q : (j ≡ length xs) × (x ≡ y)). p.0 ∙ sym q.0)
      (place_cases xs x y j f))
      (place_cases xs x y i e)

  -- what is in a list from its end is in it
  pub in_reverse : (xs : List X) (v : X) → Contains (reverse xs) v → Contains xs v
  in_reverse xs v c = Contains-permutation (reverse xs) xs v (IsPermutation-sym xs (reverse xs) (IsPermutation-reverse xs)) c

  -- the member between two lists
  pub at_middle : (xs : List X) (v : X) (ys : List X) → slice_get (xs ++ v ∷ ys) (length xs) ≡ Some v
  at_middle [] v ys = refl
  at_middle (x ∷ xs) v ys = at_middle xs v ys

-- members with different numbers have them from the end, too
module _ {X : Type 0} (key : X → ℕ) where
  pub reverse_once : (xs : List X) → NoneTwice (map key xs) → NoneTwice (map key (reverse xs))
  reverse_once [] once = once
  reverse_once (x ∷ xs) once =
      subst NoneTwice (sym (ap (map key) (reverse-append (x ∷ []) xs) ∙ map-append key (reverse xs) (x ∷ [])))
      (none_twice_longer (map key (reverse xs)) (key x)
      (reverse_once xs (λ i j y a b. let e = once (suc i) (suc j) y a b in omega (arith, e)))
      (λ c.
      let u = unmapped_in key (reverse xs) (key x) c in
      let k = at_from_contains xs u.0 (in_reverse xs u.0 u.1) in
      let e = once zero (suc k.0) (key x) refl (mapped_at key xs k.0 u.0 k.1 ∙ ap Some u.2) in omega (arith, e)))
