-- The first that isn't free, in lists that are joined. What the checks of symbols, of alternatives and of declarations
-- all use stands here with its proofs; nothing of this file has to be believed.
use Rattle.std.proofs.Common.{◌≡◌, ℕ, zero, suc, ◌<◌, ◌+◌, List, [], ◌∷◌, ◌++◌, length, refl, subst, arith, Some}
use Rattle.std.specs.Prelude.{All, slice_get}
use Rattle.std.proofs.lemmas.List.Elements.{All-head, All-tail}
use Rattle.ig_scope.specs.AlternativesTold.{FirstIn, here, later}

module _ {X : Type 0} (IsFree IsCaught : X → Type 0) where
  pub first_left : (xs ys : List X) (k : ℕ) → FirstIn IsFree IsCaught xs k → FirstIn IsFree IsCaught (xs ++ ys) k
  first_left xs ys k (here x others c) = here x (others ++ ys) c
  first_left xs ys k (later x others n f h) = later x (others ++ ys) n f (first_left others ys n h)

  pub first_right : (xs ys : List X) (k n : ℕ) → All IsFree xs → FirstIn IsFree IsCaught ys k → n ≡ length xs + k →
      FirstIn IsFree IsCaught (xs ++ ys) n
  first_right [] ys k n a h e = subst (FirstIn IsFree IsCaught ys) (let z : k ≡ n = omega arith in z) h
  first_right (x ∷ xs) ys k zero a h e = let f : ⊥ = omega arith in absurd f
  first_right (x ∷ xs) ys k (suc n) a h e =
      later x (xs ++ ys) n (All-head IsFree x xs a) (first_right xs ys k n (All-tail IsFree x xs a) h (omega arith))

  -- what is caught, and that all before it are free
  pub first_there : (xs : List X) (k : ℕ) → FirstIn IsFree IsCaught xs k → (x : X) × (slice_get xs k ≡ Some x) × IsCaught x
  first_there xs k (here x others c) = (x, refl, c)
  first_there xs k (later x others n f h) = first_there others n h

  pub first_before : (xs : List X) (k : ℕ) → FirstIn IsFree IsCaught xs k → (j : ℕ) (x : X) → j < k → slice_get xs j ≡ Some x → IsFree x
  first_before xs k (here x others c) j y l e = let f : ⊥ = omega arith in absurd f
  first_before xs k (later x others n f h) zero y l e = let s : x ≡ y = cc in subst IsFree s f
  first_before xs k (later x others n f h) (suc j) y l e = first_before others n h j y (omega arith) e

  pub free_at : (xs : List X) → All IsFree xs → (j : ℕ) (x : X) → slice_get xs j ≡ Some x → IsFree x
  free_at [] a j x e = cc
  free_at (y ∷ xs) a zero x e = let s : y ≡ x = cc in subst IsFree s (All-head IsFree y xs a)
  free_at (y ∷ xs) a (suc j) x e = free_at xs (All-tail IsFree y xs a) j x e
