-- Two lists whose elements belong together in order, with a count for each pair.
use Rattle.std.specs.Prelude.{◌≡◌, ℕ, ◌+◌, List, [], ◌∷◌}

-- the relation holds of each two elements and of some count of them, and this is the sum of the counts
pub data EachCounted {A B : Type 0} (R : A → B → ℕ → Type 0) : List A → List B → ℕ → Type 0 where
  ended : EachCounted R [] [] 0
  paired : (x : A) (y : B) (k n m : ℕ) (xs : List A) (ys : List B) → R x y k → EachCounted R xs ys n → m ≡ k + n →
      EachCounted R (x ∷ xs) (y ∷ ys) m
