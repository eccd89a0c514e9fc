-- What holds of the members of a list below a place, and what stands at a place of a list that is made of another one.
use Rattle.std.proofs.Common.{◌≡◌, ◌⊎◌, inl, inr, ℕ, ◌+◌, ◌<◌, ◌≤◌, List, All, Some, map, get_or, length, slice_get, sym, ap, ◌∙◌, subst, arith}
use Rattle.std.proofs.lemmas.Option.{slice_get-get_or, get_or_from_slice_get, same_Some}
use Rattle.ig_text.proofs.Lists.{mapped_at}

split_below : (k n : ℕ) → k < n + 1 → (k < n) ⊎ (k ≡ n)
split_below k n lt = grind arith

-- what stands at a place of a list that is made of another one
pub made_at : {A B C : Type 0} (e : A → B) (f : B → C) (xs : List A) (fs : List C) (k : ℕ) (x : A) (d : C) →
    fs ≡ map f (map e xs) → slice_get xs k ≡ Some x → get_or fs k d ≡ f (e x)
made_at e f xs fs k x d is at =
    ap (λ (z : List _). get_or z k d) is ∙
    get_or_from_slice_get (map f (map e xs)) k (f (e x)) d (mapped_at f (map e xs) k (e x) (mapped_at e xs k x at))

module _ {A : Type 0} (P : A → Type 0) (xs : List A) where
  -- each member before a place has the property
  abbrev pub EachBelow : ℕ → Type 0
  EachBelow n = (k : ℕ) (d : A) → k < n → P (get_or xs k d)

  pub each_next : (n : ℕ) (e : A) → n < length xs → EachBelow n → P (get_or xs n e) → EachBelow (n + 1)
  each_next n e lt below p k d less =
      elim (split_below k n less) [
        | inl before ↦ below k d before
        | inr same ↦
            let one : get_or xs n e ≡ get_or xs n d =
            same_Some _ _ (sym (slice_get-get_or xs n e lt) ∙ slice_get-get_or xs n d lt) in
            subst (λ (m : ℕ). P (get_or xs m d)) (sym same) (subst P one p)
      ]

  pub each_member : (n : ℕ) → length xs ≤ n → EachBelow n → All P xs
  each_member n end below k d lt = below k d (omega (arith, lt, end))
