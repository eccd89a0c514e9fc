-- Two lists side by side, and lists that grow at their end.
use Rattle.std.proofs.Common.{◌≡◌, ◌⊎◌, ⊎_elim, inl, inr, ℕ, zero, suc, ◌+◌, ◌<◌, ◌≤◌, List, [], ◌∷◌, ◌++◌, Some, length, map, refl, ◌∙◌, subst, arith, slice_get, set, sym, Contains}
use Rattle.std.proofs.lemmas.List.{length-set}
use Rattle.std.proofs.lemmas.Option.{same_Some, slice_get_within}
use Rattle.ig_text.proofs.Lists.{at_from_contains, contains_from_at, left_at, right_at, sides, unmapped_at, mapped_at}
use Rattle.ig_run_tables.specs.Extends.{Extends}
use Rattle.ig_plain.specs.Trail.{Pairs}

module _ {X : Type 0} where
  -- a member of the longer list stands in the shorter one, or behind it
  pub extends_sides : (xs ys : List X) (e : Extends xs ys) (k : ℕ) (x : X) → slice_get ys k ≡ Some x →
      (slice_get xs k ≡ Some x) ⊎ ((m : ℕ) × (k ≡ length xs + m) × (slice_get e.more m ≡ Some x))
  extends_sides xs ys e k x at = sides xs e.more k x (subst (λ (z : List X). slice_get z k ≡ Some x) e.is at)

  pub front_at : (xs ys : List X) → Extends xs ys → (k : ℕ) (x : X) → k < length xs → slice_get ys k ≡ Some x → slice_get xs k ≡ Some x
  front_at xs ys e k x lt at =
      ⊎_elim (λ (h : slice_get xs k ≡ Some x). h)
      (λ (h : (m : ℕ) × (k ≡ length xs + m) × (slice_get e.more m ≡ Some x)). let l = h.1 in absurd (omega (arith, l, lt)))
      (extends_sides xs ys e k x at)

  pub behind_at : (xs ys : List X) (e : Extends xs ys) (k m : ℕ) (x : X) → k ≡ length xs + m → slice_get ys k ≡ Some x → slice_get e.more m ≡ Some x
  behind_at xs ys e k m x is at =
      ⊎_elim (λ (h : slice_get xs k ≡ Some x). let l = slice_get_within xs k x h in absurd (omega (arith, l, is)))
      (λ (h : (n : ℕ) × (k ≡ length xs + n) × (slice_get e.more n ≡ Some x)).
      let same : h.0 ≡ m = omega (arith, h.1, is) in subst (λ (n : ℕ). slice_get e.more n ≡ Some x) same h.2) (extends_sides xs ys e k x at)

  -- a member of a list of which one place was set
  set_sides : (xs : List X) (k m : ℕ) (x y : X) → slice_get (set xs k x) m ≡ Some y → (slice_get xs m ≡ Some y) ⊎ (y ≡ x)
  set_sides [] k m x y e = inl e
  set_sides (z ∷ zs) zero zero x y e = inr (sym (same_Some x y e))
  set_sides (z ∷ zs) zero (suc m) x y e = inl e
  set_sides (z ∷ zs) (suc k) zero x y e = inl e
  set_sides (z ∷ zs) (suc k) (suc m) x y e = set_sides zs k m x y e

  pub set_among : (xs : List X) (k : ℕ) (x y : X) → Contains (set xs k x) y → Contains xs y ⊎ (y ≡ x)
  set_among xs k x y c =
      let at = at_from_contains (set xs k x) y c in
      ⊎_elim (λ (h : slice_get xs at.0 ≡ Some y). inl (contains_from_at xs at.0 y h)) (λ (e : y ≡ x). inr e) (set_sides xs k at.0 x y at.1)

module _ {X Y : Type 0} where
  pub pairs_left : (xs more : List X) (ns numbers : List Y) (x : X) (n : Y) → Pairs xs ns x n → Pairs (xs ++ more) (ns ++ numbers) x n
  pairs_left xs more ns numbers x n p = (p.0, left_at xs more p.0 x p.1, left_at ns numbers p.0 n p.2)

  pub pairs_right : (xs more : List X) (ns numbers : List Y) (x : X) (n : Y) → length ns ≡ length xs → Pairs more numbers x n →
      Pairs (xs ++ more) (ns ++ numbers) x n
  pairs_right xs more ns numbers x n same p =
      (length xs + p.0, right_at xs more (length xs + p.0) p.0 x refl p.1, right_at ns numbers (length xs + p.0) p.0 n (omega (arith, same)) p.2)

  pub pairs_sides : (xs more : List X) (ns numbers : List Y) (x : X) (n : Y) → length ns ≡ length xs →
      Pairs (xs ++ more) (ns ++ numbers) x n → Pairs xs ns x n ⊎ Pairs more numbers x n
  pairs_sides xs more ns numbers x n same p =
      ⊎_elim
      (λ (h : slice_get xs p.0 ≡ Some x).
      ⊎_elim (λ (k : slice_get ns p.0 ≡ Some n). inl (p.0, h, k))
      (λ (k : (m : ℕ) × (p.0 ≡ length ns + m) × (slice_get numbers m ≡ Some n)).
      let l = slice_get_within xs p.0 x h in let e = k.1 in absurd (omega (arith, l, e, same))) (sides ns numbers p.0 n p.2))
      (λ (h : (m : ℕ) × (p.0 ≡ length xs + m) × (slice_get more m ≡ Some x)).
      ⊎_elim (λ (k : slice_get ns p.0 ≡ Some n). let l = slice_get_within ns p.0 n k in let e = h.1 in absurd (omega (arith, l, e, same)))
      (λ (k : (m : ℕ) × (p.0 ≡ length ns + m) × (slice_get numbers m ≡ Some n)).
      let e : k.0 ≡ h.0 = omega (arith, h.1, k.1, same) in inr (h.0, h.2, subst (λ (z : ℕ). slice_get numbers z ≡ Some n) e k.2))
      (sides ns numbers p.0 n p.2))
      (sides xs more p.0 x p.1)

module _ {X Y Z : Type 0} (f : X → Z) where
  pub pairs_mapped : (xs : List X) (ns : List Y) (x : X) (n : Y) → Pairs xs ns x n → Pairs (map f xs) ns (f x) n
  pairs_mapped xs ns x n p = (p.0, mapped_at f xs p.0 x p.1, p.2)

  pub pairs_unmapped : (xs : List X) (ns : List Y) (z : Z) (n : Y) → Pairs (map f xs) ns z n → (x : X) × Pairs xs ns x n × (f x ≡ z)
  pairs_unmapped xs ns z n p = let u = unmapped_at f xs p.0 z p.1 in (u.0, (p.0, u.1, p.2), u.2)

-- ys is as long as xs, and the same from place i on
pub record IsSameFrom {X : Type 0} (xs ys : List X) (i : ℕ) : Type 0 where
  pub long : length ys ≡ length xs
  pub same : (k : ℕ) → i ≤ k → slice_get ys k ≡ slice_get xs k

module _ {X : Type 0} where
  other_at : (xs : List X) (m k : ℕ) (y : X) → m < k → slice_get (set xs m y) k ≡ slice_get xs k
  other_at [] m k y lt = refl
  other_at (x ∷ xs) zero zero y lt = absurd (omega arith)
  other_at (x ∷ xs) zero (suc k) y lt = refl
  other_at (x ∷ xs) (suc m) zero y lt = absurd (omega arith)
  other_at (x ∷ xs) (suc m) (suc k) y lt = other_at xs m k y (omega arith)

  pub all_same : (xs : List X) → IsSameFrom xs xs 0
  all_same xs = record { long = refl; same = λ k l. refl }

  pub same_more : (xs ys : List X) (i : ℕ) → IsSameFrom xs ys i → IsSameFrom xs ys (i + 1)
  same_more xs ys i s = record { long = s.long; same = λ k l. s.same k (omega (arith, l)) }

  -- a place before is written
  pub same_set : (xs ys : List X) (i m : ℕ) (y : X) → m ≤ i → IsSameFrom xs ys i → IsSameFrom xs (set ys m y) (i + 1)
  same_set xs ys i m y le s =
      record {
        long = length-set ys m y ∙ s.long;
        same = λ k l. other_at ys m k y (omega (arith, l, le)) ∙ s.same k (omega (arith, l));
      }
