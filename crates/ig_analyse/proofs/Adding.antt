-- Loops that add to whom the calls of steps lead.
use Rattle.std.proofs.Common.{◌≡◌, ◌∙◌, ap, sym, refl, ℕ, suc, ◌+◌, ◌<◌, List, [], ◌∷◌, ◌++◌, Bool, true, false, if◌then◌else◌, map, drop, length, get_or, append_assoc, arith}
use Rattle.std.proofs.lemmas.List.{append-nil, drop_more}
use Rattle.ig_item.specs.Step.{Step}
use Rattle.ig_item.specs.View.{step_of}
use Rattle.ig_item.specs.declared.step.Step as declared
use Rattle.ig_analyse.specs.Steps.{callee_of}
use Rattle.ig_analyse.specs.Marks.{passes, all_pass}
use Rattle.ig_analyse.specs.Rows.{alones, full}

pub next_step : (items : List declared.Step) (i : ℕ) (x : declared.Step) → i < length items → x ≡ get_or items i x →
    map step_of (drop i items) ≡ step_of x ∷ map step_of (drop (i + 1) items)
next_step items i x within read =
    ap (map step_of) (drop_more items i x within) ∙ ap (λ z. step_of z ∷ map step_of (drop (i + 1) items)) (sym read)

module _ (nullable : List Bool) where
  full_pass : (x : Step) (xs : List Step) → passes true nullable x ≡ true → full nullable (x ∷ xs) ≡ full nullable xs
  full_pass x xs p = ap (λ b. if b then full nullable xs else suc (full nullable xs)) p

  full_not : (x : Step) (xs : List Step) → passes true nullable x ≡ false → full nullable (x ∷ xs) ≡ suc (full nullable xs)
  full_not x xs p = ap (λ b. if b then full nullable xs else suc (full nullable xs)) p

  none_full : (steps : List Step) → full nullable steps ≡ 0 → all_pass true nullable steps ≡ true
  none_full [] e = refl
  none_full (x ∷ xs) e =
      (elim (passes true nullable x) as (λ v. passes true nullable x ≡ v → all_pass true nullable (x ∷ xs) ≡ true) [
        | true ↦ λ p. rw p (none_full xs (sym (full_pass x xs p) ∙ e))
        | false ↦ λ p. let n = sym (full_not x xs p) ∙ e in absurd (cc)
      ])
      refl

  some_full : (steps : List Step) → (full nullable steps ≡ 0 → ⊥) → all_pass true nullable steps ≡ false
  some_full [] e = absurd (e refl)
  some_full (x ∷ xs) e =
      (elim (passes true nullable x) as (λ v. passes true nullable x ≡ v → all_pass true nullable (x ∷ xs) ≡ false) [
        | true ↦ λ p. rw p (some_full xs (λ none. e (full_pass x xs p ∙ none)))
        | false ↦ λ p. rw p refl
      ])
      refl

  alones_are : (x : Step) (xs : List Step) (a b : Bool) → all_pass true nullable xs ≡ a → passes true nullable x ≡ b →
      alones nullable (x ∷ xs) ≡ (if a then callee_of x else []) ++ (if b then alones nullable xs else [])
  alones_are x xs a b e f =
      ap (λ z. (if z then callee_of x else []) ++ (if passes true nullable x then alones nullable xs else [])) e ∙
      ap (λ z. (if a then callee_of x else []) ++ (if z then alones nullable xs else [])) f

  -- the loop has come to these steps, and so many of them can't be empty
  pub record IsAlone (old now : List ℕ) (steps rest : List Step) (left : ℕ) : Type 0 where
    pub added : now ++ alones nullable rest ≡ old ++ alones nullable steps
    pub counted : full nullable rest ≡ left

  module _ (old now : List ℕ) (steps : List Step) (x : Step) (rest : List Step) (left : ℕ) (is : IsAlone old now steps (x ∷ rest) left) where
    pub adds_alone : (next : List ℕ) → passes true nullable x ≡ true → left ≡ 0 → next ≡ now ++ callee_of x → IsAlone old next steps rest left
    adds_alone next p none e =
        let counted : full nullable rest ≡ left = sym (full_pass x rest p) ∙ is.counted in
        record {
          added = ap (λ z. z ++ alones nullable rest) e ∙ append_assoc now (callee_of x) (alones nullable rest) ∙
              ap (λ z. now ++ z) (sym (alones_are x rest true true (none_full rest (counted ∙ none)) p)) ∙ is.added;
          counted = counted;
        }

    pub passes_over : passes true nullable x ≡ true → (left ≡ 0 → ⊥) → IsAlone old now steps rest left
    passes_over p some =
        let counted : full nullable rest ≡ left = sym (full_pass x rest p) ∙ is.counted in
        record {
          added = ap (λ z. now ++ z) (sym (alones_are x rest false true (some_full rest (λ e. some (sym counted ∙ e))) p)) ∙ is.added;
          counted = counted;
        }

    pub adds_last : (next : List ℕ) → passes true nullable x ≡ false → left ≡ 1 → next ≡ now ++ callee_of x → next ≡ old ++ alones nullable steps
    adds_last next p one e =
        let more : suc (full nullable rest) ≡ 1 = sym (full_not x rest p) ∙ is.counted ∙ one in
        let none : full nullable rest ≡ 0 = omega (arith, more) in
        e ∙ ap (λ z. now ++ z) (sym (append-nil (callee_of x))) ∙
        ap (λ z. now ++ z) (sym (alones_are x rest true false (none_full rest none) p)) ∙ is.added

    pub stops_before : passes true nullable x ≡ false → (left ≡ 1 → ⊥) → now ≡ old ++ alones nullable steps
    stops_before p more =
        let some : suc (full nullable rest) ≡ left = sym (full_not x rest p) ∙ is.counted in
        sym (append-nil now) ∙
        ap (λ z. now ++ z) (sym (alones_are x rest false false (some_full rest (λ e. more (sym some ∙ ap suc e))) p)) ∙ is.added
