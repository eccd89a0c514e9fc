-- The first place of a list at which a test passes, by the members in order.
use Rattle.std.proofs.Common.{◌≡◌, ℕ, suc, ◌+◌, List, [], ◌∷◌, ◌++◌, Option, Some, None, Bool, cond, true, false, refl, sym, ◌∙◌, ap, arith, length, ◌<◌, map, take, get_or}
use Rattle.std.specs.Prelude.{nat_lt, not, position, option_map, option_and_then, slice_get, is_some}
use Rattle.std.specs.List.{prefix_len}
use Rattle.std.proofs.lemmas.Bool.Decides.{nat_tests}
use Rattle.std.proofs.lemmas.List.{map_more, length-take-le, length-map}

-- the first place in a list of which the first member passes or not, from that in the others
abbrev pub place_behind : Bool → Option ℕ → Option ℕ
place_behind b others = cond b (Some 0) (option_map (λ k. k + 1) others)

one_further : (k n : ℕ) → cond (nat_lt (1 + k) (suc n)) (Some (1 + k)) None ≡ option_map (λ k. k + 1) (cond (nat_lt k n) (Some k) None)
one_further k n = go (nat_lt k n) refl
  where
    go : (b : Bool) → nat_lt k n ≡ b → cond (nat_lt (1 + k) (suc n)) (Some (1 + k)) None ≡ option_map (λ k. k + 1) (cond b (Some k) None)
    go true e = let h : nat_lt (1 + k) (suc n) ≡ true = grind (arith, nat_tests) in rw h (ap Some (omega arith))
    go false e = let h : nat_lt (1 + k) (suc n) ≡ false = grind (arith, nat_tests) in rw h refl

zero_first : (n : ℕ) → cond {A = Option ℕ} (nat_lt 0 (suc n)) (Some 0) None ≡ Some 0
zero_first n = let h : nat_lt 0 (suc n) ≡ true = grind (arith, nat_tests) in rw h refl

-- the first place is that of the first member, or one behind that in the others
pub position-cons : {X : Type 0} (p : X → Bool) (x : X) (xs : List X) → position p (x ∷ xs) ≡ place_behind (p x) (position p xs)
position-cons p x xs = go (p x) refl
  where
    go : (b : Bool) → p x ≡ b → position p (x ∷ xs) ≡ cond b (Some 0) (option_map (λ k. k + 1) (position p xs))
    go true e = rw e (zero_first (length xs))
    go false e = rw e (one_further (prefix_len (λ y. not (p y)) xs) (length xs))

at_place : {A : Type 0} (b : Bool) (a : A) (others : List A) (r : Option ℕ) →
    option_and_then (slice_get (a ∷ others)) (cond b (Some 0) (option_map (λ k. k + 1) r)) ≡
    cond b (Some a) (option_and_then (slice_get others) r)
at_place true a others r = refl
at_place false a others None = refl
at_place false a others (Some k) = let e : k + 1 ≡ suc k = omega arith in ap (slice_get (a ∷ others)) e

-- what stands in a second list at the first place of the first one
pub beside-cons : {X A : Type 0} (p : X → Bool) (x : X) (xs : List X) (a : A) (others : List A) →
    option_and_then (slice_get (a ∷ others)) (position p (x ∷ xs)) ≡
    cond (p x) (Some a) (option_and_then (slice_get others) (position p xs))
beside-cons p x xs a others =
    ap (option_and_then (slice_get (a ∷ others))) (position-cons p x xs) ∙ at_place (p x) a others (position p xs)

-- what a place says of the place in the others
abbrev pub Behind : Bool → Option ℕ → ℕ → Type 0
Behind true r p = p ≡ 0
Behind false r p = (q : ℕ) × (p ≡ suc q) × (r ≡ Some q)

-- a place is the first one, or one behind it
pub behind : (b : Bool) (r : Option ℕ) (p : ℕ) → place_behind b r ≡ Some p → Behind b r p
behind true r p e = cc
behind false None p e = cc
behind false (Some q) p e = let s : q + 1 ≡ p = cc in (q, omega arith, refl)

-- where the first member passes, there is a place
pub first_behind : (r : Option ℕ) → place_behind true r ≡ None → ⊥
first_behind r e = cc

-- where no member passes, none of the others does
pub none_behind : (r : Option ℕ) → place_behind false r ≡ None → r ≡ None
none_behind None e = refl
none_behind (Some k) e = cc

-- where a list had no place, a new last member that passes has the last one
abbrev pub or_last : Option ℕ → Bool → ℕ → Option ℕ
or_last (Some k) b n = Some k
or_last None b n = cond b (Some n) None

-- a new last member that passes only where a place is known changes no place
pub last_kept : (p : Option ℕ) (b : Bool) (i : ℕ) → (b ≡ true → is_some p ≡ true) → p ≡ or_last p b i
last_kept (Some k) b i h = refl
last_kept None true i h = let f = h refl in cc
last_kept None false i h = refl

-- where it passes only if no place is known, its place is the one
pub last_grown : (p : Option ℕ) (b : Bool) (i : ℕ) → (b ≡ true → is_some p ≡ false) → cond b (Some i) p ≡ or_last p b i
last_grown (Some k) true i h = let f = h refl in cc
last_grown (Some k) false i h = refl
last_grown None true i h = refl
last_grown None false i h = refl

or_last-after : (b c : Bool) (r : Option ℕ) (n : ℕ) →
    cond b (Some 0) (option_map (λ k. k + 1) (or_last r c n)) ≡ or_last (cond b (Some 0) (option_map (λ k. k + 1) r)) c (suc n)
or_last-after true c r n = refl
or_last-after false c (Some k) n = refl
or_last-after false true None n = ap Some (omega arith)
or_last-after false false None n = refl

-- the first place in a list with one more at the end
pub position-push : {X : Type 0} (p : X → Bool) (xs : List X) (y : X) → position p (xs ++ y ∷ []) ≡ or_last (position p xs) (p y) (length xs)
position-push p [] y = position-cons p y []
position-push p (x ∷ xs) y =
    position-cons p x (xs ++ y ∷ []) ∙ ap (place_behind (p x)) (position-push p xs y) ∙
    or_last-after (p x) (p y) (position p xs) (length xs) ∙ ap (λ r. or_last r (p y) (suc (length xs))) (sym (position-cons p x xs))

-- the first place in what is made of a beginning with the next member
pub position-next : {X Y : Type 0} (f : X → Y) (p : Y → Bool) (xs : List X) (i : ℕ) (x : X) → i < length xs → x ≡ get_or xs i x →
    position p (map f (take (i + 1) xs)) ≡ or_last (position p (map f (take i xs))) (p (f x)) i
position-next f p xs i x l e =
    let t : map f (take (i + 1) xs) ≡ map f (take i xs) ++ f x ∷ [] =
    map_more f xs i x l ∙ ap (λ z. map f (take i xs) ++ f z ∷ []) (sym e) in
    let n : length (map f (take i xs)) ≡ i = length-map (take i xs) f ∙ length-take-le i xs (omega arith) in
    ap (position p) t ∙ position-push p (map f (take i xs)) (f x) ∙ ap (or_last (position p (map f (take i xs))) (p (f x))) n
