-- Two lists with a count for each pair.
use Rattle.std.proofs.Common.{ℕ, ◌+◌, List, [], ◌∷◌, ◌++◌, arith}
use Rattle.std.specs.List.{AllZip}
use Rattle.ig_tool.specs.Counted.{EachCounted, ended, paired}

module _ {A B : Type 0} (R : A → B → ℕ → Type 0) where
  -- one more pair at the end
  pub paired_last : (xs : List A) (ys : List B) (n : ℕ) (x : A) (y : B) (k : ℕ) → EachCounted R xs ys n → R x y k →
      EachCounted R (xs ++ x ∷ []) (ys ++ y ∷ []) (n + k)
  paired_last xs ys n x y k ended r = paired x y k 0 (0 + k) [] [] r ended (omega arith)
  paired_last xs ys n x y k (paired v w j m whole vs ws q rest e) r =
      paired v w j (m + k) (n + k) (vs ++ x ∷ []) (ws ++ y ∷ []) q (paired_last vs ws m x y k rest r) (omega arith)

  -- another relation that holds where this one does
  pub paired_as : (S : A → B → ℕ → Type 0) → ((x : A) (y : B) (k : ℕ) → R x y k → S x y k) → (xs : List A) (ys : List B) (n : ℕ) →
      EachCounted R xs ys n → EachCounted S xs ys n
  paired_as S to xs ys n ended = ended
  paired_as S to xs ys n (paired v w j m whole vs ws q rest e) =
      paired v w j m n vs ws (to v w j q) (paired_as S to vs ws m rest) e

  -- and on to a third list
  pub paired_through : {C : Type 0} (Q : B → C → Type 0) (S : A → C → ℕ → Type 0) →
      ((x : A) (y : B) (z : C) (k : ℕ) → R x y k → Q y z → S x z k) → (xs : List A) (ys : List B) (zs : List C) (n : ℕ) →
      EachCounted R xs ys n → AllZip Q ys zs → EachCounted S xs zs n
  paired_through Q S to xs ys [] n ended h = ended
  paired_through Q S to xs ys (z ∷ zs) n ended h = absurd h
  paired_through Q S to xs ys [] n (paired v w j m whole vs ws q rest e) h = absurd h
  paired_through Q S to xs ys (z ∷ zs) n (paired v w j m whole vs ws q rest e) h =
      paired v z j m n vs zs (to v w z j q h.0) (paired_through Q S to vs ws zs m rest h.1) e
