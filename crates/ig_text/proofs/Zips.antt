-- Two lists as one list of pairs.
use Rattle.std.proofs.Common.{◌≡◌, ◌∙◌, ℕ, zero, suc, List, [], ◌∷◌, ◌++◌, map, length, take, refl, ap, arith, sym}
use Rattle.std.specs.List.{zip}

module _ {A B : Type 0} where
  -- the others are as many in both lists, too
  others_as_many : (xs : List A) (ys : List B) (x : A) (y : B) → length (x ∷ xs) ≡ length (y ∷ ys) → length xs ≡ length ys
  others_as_many xs ys x y e = omega arith

  -- one more pair at the end
  pub zip_push : (xs : List A) (ys : List B) (x : A) (y : B) → length xs ≡ length ys →
      zip (xs ++ x ∷ []) (ys ++ y ∷ []) ≡ zip xs ys ++ (x, y) ∷ []
  zip_push [] [] x y e = refl
  zip_push [] (b ∷ ys) x y e = let f : ⊥ = omega arith in absurd f
  zip_push (a ∷ xs) [] x y e = let f : ⊥ = omega arith in absurd f
  zip_push (a ∷ xs) (b ∷ ys) x y e = ap (λ z. (a, b) ∷ z) (zip_push xs ys x y (others_as_many xs ys a b e))

  -- one more pair at the end of pairs that a list tells
  pub bound_pushed : (v : List (A × B)) (ns ms : List A) (ks js : List B) (name word : A) (kind : B) →
      zip ns ks ≡ v → length ns ≡ length ks → ms ≡ ns ++ word ∷ [] → js ≡ ks ++ kind ∷ [] → word ≡ name →
      zip ms js ≡ v ++ (name, kind) ∷ []
  bound_pushed v ns ms ks js name word kind z l p q w =
      (λ i. zip (p i) (q i)) ∙ zip_push ns ks word kind l ∙ (λ i. z i ++ (w i, kind) ∷ [])

  -- the beginnings of both lists
  pub zip_take : (n : ℕ) (xs : List A) (ys : List B) → zip (take n xs) (take n ys) ≡ take n (zip xs ys)
  zip_take zero xs ys = refl
  zip_take (suc n) [] ys = refl
  zip_take (suc n) (a ∷ xs) [] = refl
  zip_take (suc n) (a ∷ xs) (b ∷ ys) = ap (λ z. (a, b) ∷ z) (zip_take n xs ys)

  -- lists of one length give as many pairs
  pub length_zip : (xs : List A) (ys : List B) → length xs ≡ length ys → length (zip xs ys) ≡ length xs
  length_zip [] ys e = refl
  length_zip (a ∷ xs) [] e = let f : ⊥ = omega arith in absurd f
  length_zip (a ∷ xs) (b ∷ ys) e = ap suc (length_zip xs ys (others_as_many xs ys a b e))

  -- the first list, from the pairs
  pub firsts_zip : (xs : List A) (ys : List B) → length xs ≡ length ys → map (λ pair. pair.0) (zip xs ys) ≡ xs
  firsts_zip [] ys e = refl
  firsts_zip (a ∷ xs) [] e = let f : ⊥ = omega arith in absurd f
  firsts_zip (a ∷ xs) (b ∷ ys) e = ap (λ z. a ∷ z) (firsts_zip xs ys (others_as_many xs ys a b e))

  -- the second list, from the pairs
  pub seconds_zip : (xs : List A) (ys : List B) → length xs ≡ length ys → map (λ pair. pair.1) (zip xs ys) ≡ ys
  seconds_zip [] [] e = refl
  seconds_zip [] (b ∷ ys) e = let f : ⊥ = omega arith in absurd f
  seconds_zip (a ∷ xs) [] e = let f : ⊥ = omega arith in absurd f
  seconds_zip (a ∷ xs) (b ∷ ys) e = ap (λ z. b ∷ z) (seconds_zip xs ys (others_as_many xs ys a b e))

  -- the first list, from pairs that a list tells
  pub firsts_of : (v : List (A × B)) (xs : List A) (ys : List B) → zip xs ys ≡ v → length xs ≡ length ys →
      map (λ pair. pair.0) v ≡ xs
  firsts_of v xs ys e l = ap (λ (z : List (A × B)). map (λ pair. pair.0) z) (sym e) ∙ firsts_zip xs ys l

  -- and the second list
  pub seconds_of : (v : List (A × B)) (xs : List A) (ys : List B) → zip xs ys ≡ v → length xs ≡ length ys →
      map (λ pair. pair.1) v ≡ ys
  seconds_of v xs ys e l = ap (λ (z : List (A × B)). map (λ pair. pair.1) z) (sym e) ∙ seconds_zip xs ys l
