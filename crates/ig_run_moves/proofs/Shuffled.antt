-- Lists in which nothing stands twice, in another order.
use Rattle.std.proofs.Common.{◌≡◌, ◌∙◌, ⊎_elim, ℕ, ◌<◌, List, Some, length, get_or, slice_get, refl, sym, ap, subst}
use Rattle.std.specs.List.{swap}
use Rattle.std.specs.List.Sorted.{IsPermutation}
use Rattle.std.proofs.lemmas.List.Edits.{length-swap, swapped_from_swap}
use Rattle.std.proofs.lemmas.Bool.{cases_eq}
use Rattle.std.proofs.lemmas.List.Sorted.{IsPermutation-keeps}
use Rattle.std.proofs.lemmas.Option.{slice_get_within, slice_get-get_or, get_or_from_slice_get}
use Rattle.ig_text.proofs.Differing.{AllDiffer}

module _ {X : Type 0} where
  -- where a member of a list stood before the members at a and b changed places
  data Stood (xs : List X) (a b i : ℕ) (x : X) : Type 0 where
    at_b : i ≡ a → slice_get xs b ≡ Some x → Stood xs a b i x
    at_a : i ≡ b → slice_get xs a ≡ Some x → Stood xs a b i x
    still : (i ≡ a → ⊥) → (i ≡ b → ⊥) → slice_get xs i ≡ Some x → Stood xs a b i x

  module _ (xs : List X) (a b : ℕ) (p : a < length xs) (q : b < length xs) where
    stood : (i : ℕ) (x : X) → slice_get (swap xs a b) i ≡ Some x → Stood xs a b i x
    stood i x at =
        let moved = swapped_from_swap xs (swap xs a b) a b x p q refl in
        let is : get_or (swap xs a b) i x ≡ x = get_or_from_slice_get (swap xs a b) i x x at in
        let within : i < length xs = subst (λ n. i < n) (length-swap xs a b) (slice_get_within (swap xs a b) i x at) in
        ⊎_elim
        (λ (e : i ≡ a). at_b e
        (slice_get-get_or xs b x q ∙ ap Some (sym moved.0 ∙ ap (λ k. get_or (swap xs a b) k x) (sym e) ∙ is)))
        (λ (n : i ≡ a → ⊥). ⊎_elim
        (λ (e : i ≡ b). at_a e
        (slice_get-get_or xs a x p ∙ ap Some (sym moved.1 ∙ ap (λ k. get_or (swap xs a b) k x) (sym e) ∙ is)))
        (λ (m : i ≡ b → ⊥). still n m (slice_get-get_or xs i x within ∙ ap Some (sym (moved.2 i n m) ∙ is)))
        (cases_eq i b))
        (cases_eq i a)

    -- what stands at two places stood at two
    apart : AllDiffer xs → (i j : ℕ) (x : X) → Stood xs a b i x → Stood xs a b j x → i ≡ j
    apart differ i j x (at_b e g) (at_b f h) = e ∙ sym f
    apart differ i j x (at_b e g) (at_a f h) = e ∙ differ a b x h g ∙ sym f
    apart differ i j x (at_b e g) (still n m h) = absurd (m (differ j b x h g))
    apart differ i j x (at_a e g) (at_b f h) = e ∙ differ b a x h g ∙ sym f
    apart differ i j x (at_a e g) (at_a f h) = e ∙ sym f
    apart differ i j x (at_a e g) (still n m h) = absurd (n (differ j a x h g))
    apart differ i j x (still n m g) (at_b f h) = absurd (m (differ i b x g h))
    apart differ i j x (still n m g) (at_a f h) = absurd (n (differ i a x g h))
    apart differ i j x (still n m g) (still o l h) = differ i j x g h

  -- nothing stands twice in another order, either
  pub shuffled_differ : (xs ys : List X) → AllDiffer xs → IsPermutation xs ys → AllDiffer ys
  shuffled_differ xs ys differ =
      IsPermutation-keeps xs AllDiffer differ
      (λ l a b p q d i j x e f. apart l a b p q d i j x (stood l a b p q i x e) (stood l a b p q j x f)) ys
