-- Lists that belong together place by place.
use Rattle.std.proofs.Common.{◌≡◌, ℕ, zero, suc, ◌+◌, ◌<◌, ◌≤◌, List, [], ◌∷◌, ◌++◌, Some, Contains, length, map, take, get_or, slice_get, refl, sym, ap, ap₂, subst, subst₂, arith}
use Rattle.std.proofs.lemmas.List.{take_all, take_more}
use Rattle.std.proofs.lemmas.Option.{same_Some}
use Rattle.ig_text.specs.Pairwise as pairwise
use Rattle.ig_text.specs.Pairwise.{Each}
use Rattle.ig_text.proofs.Lists.{at_from_contains, contains_from_at}

-- what stands at one place belongs together
pub both_at : {X Y : Type 0} {P : X → Y → Type 0} {xs : List X} {ys : List Y} → Each P xs ys → (k : ℕ) (x : X) (y : Y) →
    slice_get xs k ≡ Some x → slice_get ys k ≡ Some y → P x y
both_at pairwise.none k x y at_x at_y = cc
both_at {P = P} (pairwise.more a b xs ys p each) zero x y at_x at_y =
    subst₂ P (same_Some a x at_x) (same_Some b y at_y) p
both_at (pairwise.more a b xs ys p each) (suc k) x y at_x at_y = both_at each k x y at_x at_y

-- what belongs to a member of the first list stands at its place
pub partner : {X Y : Type 0} {P : X → Y → Type 0} {xs : List X} {ys : List Y} → Each P xs ys → (k : ℕ) (x : X) →
    slice_get xs k ≡ Some x → (y : Y) × (slice_get ys k ≡ Some y) × P x y
partner pairwise.none k x at_x = cc
partner {P = P} (pairwise.more a b xs ys p each) zero x at_x =
    (b, refl, subst (λ z. P z b) (same_Some a x at_x) p)
partner (pairwise.more a b xs ys p each) (suc k) x at_x = partner each k x at_x

-- and what belongs to a member of the second one
pub key_at : {X Y : Type 0} {P : X → Y → Type 0} {xs : List X} {ys : List Y} → Each P xs ys → (k : ℕ) (y : Y) →
    slice_get ys k ≡ Some y → (x : X) × (slice_get xs k ≡ Some x) × P x y
key_at pairwise.none k y at_y = cc
key_at {P = P} (pairwise.more a b xs ys p each) zero y at_y =
    (a, refl, subst (λ z. P a z) (same_Some b y at_y) p)
key_at (pairwise.more a b xs ys p each) (suc k) y at_y = key_at each k y at_y

-- lists whose elements are determined by those of one list are equal
pub same_each : {X Y : Type 0} (P : X → Y → Type 0) → ((x : X) (y z : Y) → P x y → P x z → y ≡ z) → {xs : List X}
    {ys zs : List Y} → Each P xs ys → Each P xs zs → ys ≡ zs
same_each P one pairwise.none pairwise.none = refl
same_each P one (pairwise.more x y xs ys p each) (pairwise.more a z rest zs q other) =
    ap₂ (λ v vs. v ∷ vs) (one x y z p q) (same_each P one each other)

-- lists that belong together are equally long
pub same_length : {X Y : Type 0} {P : X → Y → Type 0} {xs : List X} {ys : List Y} → Each P xs ys → length xs ≡ length ys
same_length pairwise.none = refl
same_length (pairwise.more a b xs ys p each) = ap suc (same_length each)

-- equally long lists whose members belong together at each place belong together
pub each_places : {X Y : Type 0} (P : X → Y → Type 0) (xs : List X) (ys : List Y) → length xs ≡ length ys →
    ((k : ℕ) (x : X) (y : Y) → slice_get xs k ≡ Some x → slice_get ys k ≡ Some y → P x y) → Each P xs ys
each_places P [] [] long h = pairwise.none
each_places P [] (y ∷ ys) long h = absurd (omega (arith, long))
each_places P (x ∷ xs) [] long h = absurd (omega (arith, long))
each_places P (x ∷ xs) (y ∷ ys) long h =
    pairwise.more x y xs ys (h 0 x y refl refl) (each_places P xs ys (omega (arith, long)) (λ k a b at_a at_b. h (suc k) a b at_a at_b))

-- what belongs together by one list belongs together place by place
pub each_from : {S X Y : Type 0} (P : X → Y → Type 0) (f : S → X) (g : S → Y) (xs : List S) →
    ((s : S) → Contains xs s → P (f s) (g s)) → Each P (map f xs) (map g xs)
each_from P f g [] h = pairwise.none
each_from P f g (x ∷ xs) h =
    pairwise.more (f x) (g x) (map f xs) (map g xs) (h x (contains_from_at (x ∷ xs) 0 x refl))
    (each_from P f g xs (λ s c. let at = at_from_contains xs s c in h s (contains_from_at (x ∷ xs) (suc at.0) s at.1)))

module _ {X Y A B : Type 0} (P : X → Y → Type 0) (Q : A → B → Type 0) (f : X → A) (g : Y → B) where
  -- what belongs together belongs together by its images
  pub each_mapped : (xs : List X) (ys : List Y) → ((x : X) (y : Y) → Contains xs x → P x y → Q (f x) (g y)) → Each P xs ys →
      Each Q (map f xs) (map g ys)
  each_mapped _ _ h pairwise.none = pairwise.none
  each_mapped _ _ h (pairwise.more x y xs ys p each) =
      pairwise.more (f x) (g y) (map f xs) (map g ys) (h x y (contains_from_at (x ∷ xs) 0 x refl) p)
      (each_mapped xs ys (λ z w c q. let at = at_from_contains xs z c in h z w (contains_from_at (x ∷ xs) (suc at.0) z at.1) q) each)

module _ {X Y : Type 0} (P : X → Y → Type 0) where
  -- each member of the second list belongs to one of the first
  pub each_right : (xs : List X) (ys : List Y) → Each P xs ys → (y : Y) → Contains ys y → (x : X) × Contains xs x × P x y
  each_right xs ys each y c =
      let (k, at) = at_from_contains ys y c in
      let (x, there, p) = key_at each k y at in
      (x, contains_from_at xs k x there, p)

  -- one more of both
  each_push : (xs : List X) (ys : List Y) (x : X) (y : Y) → Each P xs ys → P x y → Each P (xs ++ x ∷ []) (ys ++ y ∷ [])
  each_push _ _ x y pairwise.none p = pairwise.more x y [] [] p pairwise.none
  each_push _ _ x y (pairwise.more a b xs ys q each) p = pairwise.more a b (xs ++ x ∷ []) (ys ++ y ∷ []) q (each_push xs ys x y each p)

  -- the next member of the first list, and one more of the second
  pub each_next : (xs : List X) (ys more : List Y) (i : ℕ) (d : X) (y : Y) → i < length xs → Each P (take i xs) ys → P (get_or xs i d) y →
      more ≡ ys ++ y ∷ [] → Each P (take (i + 1) xs) more
  each_next xs ys more i d y lt each p is =
      subst (λ (v : List X). Each P v more) (sym (take_more xs i d lt))
      (subst (λ (v : List Y). Each P (take i xs ++ get_or xs i d ∷ []) v) (sym is) (each_push (take i xs) ys (get_or xs i d) y each p))

  -- a beginning that has all is the list
  pub each_all : (xs : List X) (ys : List Y) (i : ℕ) → length xs ≤ i → Each P (take i xs) ys → Each P xs ys
  each_all xs ys i le each = subst (λ (v : List X). Each P v ys) (take_all i xs le) each

-- lists of one length have members in the same places
pub beside : {X Y : Type 0} (xs : List X) (ys : List Y) (k : ℕ) (x : X) → length ys ≡ length xs → slice_get xs k ≡ Some x →
    (y : Y) × (slice_get ys k ≡ Some y)
beside [] ys k x same e = cc
beside (z ∷ xs) [] k x same e = cc
beside (z ∷ xs) (y ∷ ys) zero x same e = (y, refl)
beside (z ∷ xs) (y ∷ ys) (suc k) x same e = let h : suc (length ys) ≡ suc (length xs) = same in beside xs ys k x (omega (arith, h)) e
