-- What inserting into a set makes of its keys, where `==` decides whether keys are the same.
use Rattle.std.proofs.Common.{◌≡◌, ◌⊎◌, inl, inr, ⊎_elim, ℕ, ◌<◌, List, [], ◌∷◌, ◌++◌, Bool, true, false, refl, sym, ◌∙◌, ap, arith, Some, Contains, if◌then◌else◌, slice_get}
use Rattle.std.specs.List.{IsDistinct, list_any}
use Rattle.std.specs.Bool.{Decides}
use Rattle.std.proofs.lemmas.Bool.{cases_lt}
use Rattle.std.proofs.lemmas.Option.{slice_get_within, get_or_from_slice_get}
use Rattle.std.proofs.lemmas.Map.Made.{AllPairs-from_IsDistinct}
use Rattle.std.proofs.lemmas.Map.Views.{Contains-from_any}
use Rattle.std.proofs.lemmas.List.Folds.{list_any_at}
use Rattle.indexmap.specs.IndexSet.{insert_key}
use Rattle.ig_item.specs.WellKinded.{NoneTwice}

module _ {X : Type 0} {eq : X → X → Bool} (decides : (x y : X) → Decides (eq x y) (x ≡ y)) where
  apart : (xs : List X) (i j : ℕ) (x : X) → IsDistinct eq xs → slice_get xs i ≡ Some x → slice_get xs j ≡ Some x → i < j → ⊥
  apart xs i j x d p q l =
      AllPairs-from_IsDistinct decides xs d i j x l (slice_get_within xs j x q)
      (get_or_from_slice_get xs i x x p ∙ sym (get_or_from_slice_get xs j x x q))

  pub once_from_distinct : (xs : List X) → IsDistinct eq xs → NoneTwice xs
  once_from_distinct xs d i j x p q =
      ⊎_elim (λ l. absurd (apart xs i j x d p q l))
      (λ g. ⊎_elim (λ l. absurd (apart xs j i x d q p l)) (λ h. omega (arith, g, h)) (cases_lt j i))
      (cases_lt i j)

  after_true : (before after : List X) (x : X) → after ≡ insert_key eq before x → list_any (eq x) before ≡ true → after ≡ before
  after_true before after x e t = e ∙ ap (λ b. if b then before else before ++ x ∷ []) t

  after_false : (before after : List X) (x : X) → after ≡ insert_key eq before x → list_any (eq x) before ≡ false →
      after ≡ before ++ x ∷ []
  after_false before after x e t = e ∙ ap (λ b. if b then before else before ++ x ∷ []) t

  pub inserted_is : (before after : List X) (x : X) → after ≡ insert_key eq before x →
      (after ≡ before) ⊎ (after ≡ before ++ x ∷ [])
  inserted_is before after x e = go (list_any (eq x) before) refl
    where
      go : (b : Bool) → list_any (eq x) before ≡ b → (after ≡ before) ⊎ (after ≡ before ++ x ∷ [])
      go true t = inl (after_true before after x e t)
      go false t = inr (after_false before after x e t)

  pub inserted_at : (after : List X) (x k : X) (n : ℕ) → slice_get after n ≡ Some k → eq x k ≡ true → slice_get after n ≡ Some x
  inserted_at after x k n e t = e ∙ ap Some (sym ((decides x k).0 t))

  pub absent : (before : List X) (x : X) → list_any (eq x) before ≡ false → Contains before x → ⊥
  absent before x none c =
      let found : list_any (eq x) before ≡ true = list_any_at (eq x) before c.0 x c.1 ((decides x _).1 (sym c.2)) in
      let no : true ≡ false = sym found ∙ none in cc

  -- a value that isn't there is added at the end
  pub not_there : (before after : List X) (x : X) → after ≡ insert_key eq before x → (Contains before x → ⊥) → after ≡ before ++ x ∷ []
  not_there before after x e none = go (list_any (eq x) before) refl
    where
      go : (b : Bool) → list_any (eq x) before ≡ b → after ≡ before ++ x ∷ []
      go true t = absurd (none (Contains-from_any (λ x y. (decides x y).0) x before t))
      go false t = after_false before after x e t
