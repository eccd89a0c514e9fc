-- Lists of all that is numbered: so they have a known length, and contain what has a number.
use Rattle.std.proofs.Common.{◌≡◌, ◌⊎◌, ℕ, zero, suc, ◌+◌, ◌*◌, ◌<◌, List, [], ◌∷◌, ◌++◌, Some, map, length, length-append, Contains, slice_get, sym, ap, ◌∙◌, refl, subst, arith, ⊎_elim}
use Rattle.std.specs.List.{sum_by}
use Rattle.std.proofs.lemmas.List.{length-map}
use Rattle.std.proofs.lemmas.List.Sums.{sum_by-cons}
use Rattle.std.proofs.lemmas.Option.{same_Some}
use Rattle.std.proofs.lemmas.List.Elements.{Contains-append_left, Contains-append_right}
use Rattle.ig_text.proofs.Lists.{at_from_contains, it_is_in, mapped_in}
use Rattle.ig_item.specs.WellKinded.{NoneTwice}

-- the last one, or one before
pub order : (k n : ℕ) → k < suc n → (k ≡ n) ⊎ (k < n)
order k n lt = grind arith

-- what f gives for each number below n
abbrev pub below : {Y : Type 0} → (ℕ → Y) → ℕ → List Y
below f zero = []
below f (suc n) = f n ∷ below f n

pub length-below : {Y : Type 0} (f : ℕ → Y) (n : ℕ) → length (below f n) ≡ n
length-below f zero = refl
length-below f (suc n) = ap suc (length-below f n)

pub in_below : {Y : Type 0} (f : ℕ → Y) (n k : ℕ) → k < n → Contains (below f n) (f k)
in_below f zero k lt = absurd (omega arith)
in_below f (suc n) k lt =
    ⊎_elim (λ (e : k ≡ n). rw e (Contains-append_left (f n ∷ []) (below f n) (f n) (it_is_in (f n))))
    (λ (h : k < n). Contains-append_right (f n ∷ []) (below f n) (f k) (in_below f n k h))
    (order k n lt)

-- which of them stands where
pub at_below : {Y : Type 0} (f : ℕ → Y) (n i : ℕ) (y : Y) → slice_get (below f n) i ≡ Some y →
    (k : ℕ) × (suc (k + i) ≡ n) × (f k ≡ y)
at_below f zero i y e = cc
at_below f (suc n) zero y e = (n, omega arith, same_Some (f n) y e)
at_below f (suc n) (suc i) y e = let h = at_below f n i y e in (h.0, omega (arith, h.1), h.2)

-- where the function tells numbers apart, nothing stands twice
pub once_below : {Y : Type 0} (f : ℕ → Y) (n : ℕ) → ((j k : ℕ) → f j ≡ f k → j ≡ k) → NoneTwice (below f n)
once_below f n apart i j y p q =
    let a = at_below f n i y p in
    let b = at_below f n j y q in
    let same = apart a.0 b.0 (a.2 ∙ sym b.2) in omega (arith, a.1, b.1, same)

-- what f gives for each member and its number, one behind the other, where the first member is number n
abbrev pub each : {X Y : Type 0} → (ℕ → X → List Y) → ℕ → List X → List Y
each f n [] = []
each f n (x ∷ xs) = f n x ++ each f (suc n) xs

pub length-each : {X Y : Type 0} (f : ℕ → X → List Y) (g : X → ℕ) → ((n : ℕ) (x : X) → length (f n x) ≡ g x) →
    (n : ℕ) (xs : List X) → length (each f n xs) ≡ sum_by g xs
length-each f g long n [] = refl
length-each f g long n (x ∷ xs) =
    let here = long n x in
    let others = length-each f g long (suc n) xs in
    let all = length-append (f n x) (each f (suc n) xs) in
    let sum = sum_by-cons g x xs in omega (arith, here, others, all, sum)

pub in_each : {X Y : Type 0} (f : ℕ → X → List Y) (n : ℕ) (xs : List X) (k m : ℕ) (x : X) (y : Y) →
    slice_get xs k ≡ Some x → m ≡ n + k → Contains (f m x) y → Contains (each f n xs) y
in_each f n [] k m x y e m_is c = cc
in_each f n (z ∷ xs) zero m x y e m_is c =
    let same : m ≡ n = omega arith in
    let moved : f m x ≡ f n z = cc (same_Some z x e) in
    Contains-append_left (f n z) (each f (suc n) xs) y (subst (λ ys. Contains ys y) moved c)
in_each f n (z ∷ xs) (suc k) m x y e m_is c =
    Contains-append_right (f n z) (each f (suc n) xs) y (in_each f (suc n) xs k m x y e (omega arith) c)

-- what f gives for each member of the one list with each of the other
abbrev pub crossed : {X Y Z : Type 0} → (X → Y → Z) → List X → List Y → List Z
crossed f [] ys = []
crossed f (x ∷ xs) ys = map (f x) ys ++ crossed f xs ys

pub length-crossed : {X Y Z : Type 0} (f : X → Y → Z) (xs : List X) (ys : List Y) →
    length (crossed f xs ys) ≡ length xs * length ys
length-crossed f [] ys = grind arith
length-crossed f (x ∷ xs) ys =
    let one = length-map ys (f x) in
    let others = length-crossed f xs ys in
    let all = length-append (map (f x) ys) (crossed f xs ys) in grind (arith, one, others, all)

pub in_crossed : {X Y Z : Type 0} (f : X → Y → Z) (xs : List X) (ys : List Y) (x : X) (y : Y) →
    Contains xs x → Contains ys y → Contains (crossed f xs ys) (f x y)
in_crossed {X} {Y} {Z} f xs ys x y c d = let at = at_from_contains xs x c in by_place xs at.0 at.1
  where
    by_place : (zs : List X) (k : ℕ) → slice_get zs k ≡ Some x → Contains (crossed f zs ys) (f x y)
    by_place [] k e = cc
    by_place (z ∷ zs) zero e =
        Contains-append_left (map (f z) ys) (crossed f zs ys) (f x y)
        (subst (λ (w : X). Contains (map (f w) ys) (f x y)) (sym (same_Some z x e)) (mapped_in (f x) ys y d))
    by_place (z ∷ zs) (suc k) e = Contains-append_right (map (f z) ys) (crossed f zs ys) (f x y) (by_place zs k e)
