-- Lists that are made of other lists: what is among them, and what holds of each of their members.
use Rattle.std.proofs.Common.{◌≡◌, ℕ, zero, suc, ◌<◌, Bool, true, false, List, [], ◌∷◌, ◌++◌, map, flat_map, refl, sym, ap, subst, arith, Option, Some, None, inl, inr, eq-or-lt_of_le}
use Rattle.std.specs.Prelude.{◌⊎◌}
use Rattle.ig_meaning_examples.proofs.Choosing.{IsAmong, OfEach}

-- the list, where the test holds
abbrev pub given : {A : Type 0} → Bool → (Unit {0} → List A) → List A
given true xs = xs tt
given false xs = []

-- the list made of what is there
abbrev pub from : {A B : Type 0} → Option A → (A → List B) → List B
from None f = []
from (Some x) f = f x

-- the numbers below a number
abbrev pub below : ℕ → List ℕ
below zero = []
below (suc n) = below n ++ n ∷ []

pub among_left : {A : Type 0} (xs ys : List A) (y : A) → IsAmong xs y → IsAmong (xs ++ ys) y
among_left [] ys y m = absurd m
among_left (x ∷ xs) ys y (inl e) = inl e
among_left (x ∷ xs) ys y (inr m) = inr (among_left xs ys y m)

pub among_right : {A : Type 0} (xs ys : List A) (y : A) → IsAmong ys y → IsAmong (xs ++ ys) y
among_right [] ys y m = m
among_right (x ∷ xs) ys y m = inr (among_right xs ys y m)

pub among_map : {A B : Type 0} (f : A → B) (xs : List A) (x : A) → IsAmong xs x → IsAmong (map f xs) (f x)
among_map f [] x m = absurd m
among_map f (y ∷ ys) x (inl e) = inl (ap f e)
among_map f (y ∷ ys) x (inr m) = inr (among_map f ys x m)

pub among_each : {A B : Type 0} (f : A → List B) (xs : List A) (x : A) (y : B) → IsAmong xs x → IsAmong (f x) y →
    IsAmong (flat_map f xs) y
among_each f [] x y m h = absurd m
among_each f (z ∷ zs) x y (inl e) h = among_left (f z) (flat_map f zs) y (subst (λ w. IsAmong (f w) y) (sym e) h)
among_each f (z ∷ zs) x y (inr m) h = among_right (f z) (flat_map f zs) y (among_each f zs x y m h)

pub among_given : {A : Type 0} (b : Bool) (xs : Unit {0} → List A) (y : A) → b ≡ true → IsAmong (xs tt) y → IsAmong (given b xs) y
among_given true xs y e m = m
among_given false xs y e m = absurd (cc)

pub among_from : {A B : Type 0} (o : Option A) (f : A → List B) (x : A) (y : B) → o ≡ Some x → IsAmong (f x) y →
    IsAmong (from o f) y
among_from o f x y e m = subst (λ z. IsAmong (from z f) y) (sym e) m

below_or_last : (n k : ℕ) → (k < n → IsAmong (below n) k) → (k ≡ n) ⊎ (k < n) → IsAmong (below (suc n)) k
below_or_last n k earlier (inl e) = among_right (below n) (n ∷ []) k (inl (sym e))
below_or_last n k earlier (inr m) = among_left (below n) (n ∷ []) k (earlier m)

pub among_below : (n k : ℕ) → k < n → IsAmong (below n) k
among_below zero k l = absurd (omega (arith, l))
among_below (suc n) k l = below_or_last n k (among_below n k) (eq-or-lt_of_le (omega (arith, l)))

pub same_member : {A : Type 0} (xs : List A) (y z : A) → y ≡ z → IsAmong xs y → IsAmong xs z
same_member xs y z e m = subst (IsAmong xs) e m

pub each_append : {A : Type 0} (P : A → Type 0) (xs ys : List A) → OfEach P xs → OfEach P ys → OfEach P (xs ++ ys)
each_append P [] ys a b = b
each_append P (x ∷ xs) ys a b = (a.0, each_append P xs ys a.1 b)

pub each_map : {A B : Type 0} (P : A → Type 0) (Q : B → Type 0) (f : A → B) (xs : List A) → OfEach P xs →
    ((x : A) → P x → Q (f x)) → OfEach Q (map f xs)
each_map P Q f [] a h = tt
each_map P Q f (x ∷ xs) a h = (h x a.0, each_map P Q f xs a.1 h)

pub each_of_each : {A B : Type 0} (P : A → Type 0) (Q : B → Type 0) (f : A → List B) (xs : List A) → OfEach P xs →
    ((x : A) → P x → OfEach Q (f x)) → OfEach Q (flat_map f xs)
each_of_each P Q f [] a h = tt
each_of_each P Q f (x ∷ xs) a h = each_append Q (f x) (flat_map f xs) (h x a.0) (each_of_each P Q f xs a.1 h)

pub each_given : {A : Type 0} (Q : A → Type 0) (b : Bool) (xs : Unit {0} → List A) → (b ≡ true → OfEach Q (xs tt)) → OfEach Q (given b xs)
each_given Q true xs h = h refl
each_given Q false xs h = tt

pub each_from : {A B : Type 0} (Q : B → Type 0) (o : Option A) (f : A → List B) → ((x : A) → o ≡ Some x → OfEach Q (f x)) →
    OfEach Q (from o f)
each_from Q None f h = tt
each_from Q (Some x) f h = h x refl

abbrev pub Any : {A : Type 0} → A → Type 0
Any x = Unit {0}

pub any : {A : Type 0} (xs : List A) → OfEach Any xs
any [] = tt
any (x ∷ xs) = (tt, any xs)
