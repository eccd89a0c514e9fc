-- Lists in which nothing stands twice.
use Rattle.std.proofs.Common.{◌≡◌, ◌∙◌, ◌⊎◌, inl, inr, ℕ, zero, suc, ◌+◌, List, [], ◌∷◌, ◌++◌, Some, length, take, Contains, slice_get, refl, sym, ap, subst, arith}
use Rattle.ig_text.proofs.Lists.{at_from_contains, contains_from_at, contains_one, in_take, within_take, sides}
use Rattle.ig_text.proofs.Orders.{neither_below}

module _ {X : Type 0} where
  -- what stands at two places stands at one
  abbrev pub AllDiffer : List X → Type 0
  AllDiffer xs = (i j : ℕ) (x : X) → slice_get xs i ≡ Some x → slice_get xs j ≡ Some x → i ≡ j

  -- none of them stands earlier, too
  pub not_before : (xs : List X) → AllDiffer xs → (k : ℕ) (x : X) → slice_get xs k ≡ Some x → Contains (take k xs) x → ⊥
  not_before xs differ k x e m =
      let i = at_from_contains (take k xs) x m in
      let w = within_take xs k i.0 x i.1 in
      let less = w.0 in
      let same : i.0 ≡ k = differ i.0 k x w.1 e in omega (arith, less, same)

  -- and the other way about
  pub all_differ : (xs : List X) → ((k : ℕ) (x : X) → slice_get xs k ≡ Some x → Contains (take k xs) x → ⊥) → AllDiffer xs
  all_differ xs f i j x a b =
      neither_below i j (λ l. f j x b (contains_from_at (take j xs) i x (in_take xs j i x l a)))
      (λ l. f i x a (contains_from_at (take i xs) j x (in_take xs i j x l b)))

  -- a list of one
  pub one_differs : (x : X) → AllDiffer (x ∷ [])
  one_differs x zero zero y a b = refl
  one_differs x zero (suc j) y a b = cc
  one_differs x (suc i) j y a b = cc

  -- two such lists with no member in common
  pub both_differ : (xs ys : List X) → AllDiffer xs → AllDiffer ys → ((x : X) → Contains xs x → Contains ys x → ⊥) → AllDiffer (xs ++ ys)
  both_differ xs ys p q apart i j x a b = go (sides xs ys i x a) (sides xs ys j x b)
    where
      go : (slice_get xs i ≡ Some x) ⊎ ((m : ℕ) × (i ≡ length xs + m) × (slice_get ys m ≡ Some x)) →
          (slice_get xs j ≡ Some x) ⊎ ((m : ℕ) × (j ≡ length xs + m) × (slice_get ys m ≡ Some x)) → i ≡ j
      go (inl c) (inl d) = p i j x c d
      go (inl c) (inr d) = absurd (apart x (contains_from_at xs i x c) (contains_from_at ys d.0 x d.2))
      go (inr c) (inl d) = absurd (apart x (contains_from_at xs j x d) (contains_from_at ys c.0 x c.2))
      go (inr c) (inr d) = c.1 ∙ ap (λ z. length xs + z) (q c.0 d.0 x c.2 d.2) ∙ sym d.1

  -- one more behind, which isn't among them
  pub pushed_differ : (xs : List X) (x : X) → AllDiffer xs → (Contains xs x → ⊥) → AllDiffer (xs ++ x ∷ [])
  pushed_differ xs x p none = both_differ xs (x ∷ []) p (one_differs x) (λ y c d. none (subst (Contains xs) (contains_one x y d) c))

  -- a list of two that differ
  pub two_differ : (x y : X) → (x ≡ y → ⊥) → AllDiffer (x ∷ y ∷ [])
  two_differ x y other = pushed_differ (x ∷ []) y (one_differs x) (λ c. other (sym (contains_one x y c)))
