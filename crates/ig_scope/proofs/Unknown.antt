-- What an expression names, by its parts.
use Rattle.std.proofs.Common.{◌≡◌, ◌++◌, ℕ, List, [], ◌∷◌, Bool, true, false, ◌⊎◌, inl, inr, refl, sym, subst, arith, true≢false}
use Rattle.std.specs.Prelude.{Contains, IsTrue, ◌↔◌, not}
use Rattle.std.proofs.lemmas.List.Elements.{Contains-append_left, Contains-append_right, Contains-append_cases}
use Rattle.ig_expr.specs.Expression.{Expression}
use Rattle.ig_text.proofs.Lists.{none_in_nil, in_rest}
use Rattle.ig_grammar.specs.Visible.{Visible, names}
use Rattle.ig_grammar.specs.Condition.{NamesUnknown, variables}

-- an expression with the variables of two others
module _ (v : Visible) (a b e : Expression) (parts : variables e ≡ variables a ++ variables b) where
  left : NamesUnknown v a → NamesUnknown v e
  left h = (h.0, subst (λ xs. Contains xs h.0) (sym parts) (Contains-append_left (variables a) (variables b) h.0 h.1), h.2)

  right : NamesUnknown v b → NamesUnknown v e
  right h = (h.0, subst (λ xs. Contains xs h.0) (sym parts) (Contains-append_right (variables a) (variables b) h.0 h.1), h.2)

  either : NamesUnknown v e → NamesUnknown v a ⊎ NamesUnknown v b
  either h =
      elim (Contains-append_cases (variables a) (variables b) h.0 (subst (λ xs. Contains xs h.0) parts h.1)) [
        | inl x ↦ inl (h.0, x, h.2)
        | inr x ↦ inr (h.0, x, h.2)
      ]

  pub unknown_then : (r : Bool) → IsTrue r ↔ NamesUnknown v a → r ≡ true → IsTrue r ↔ NamesUnknown v e
  unknown_then r h t = ((λ _. left (h.0 t)), (λ _. t))

  pub unknown_else : (r s : Bool) → IsTrue r ↔ NamesUnknown v a → r ≡ false → IsTrue s ↔ NamesUnknown v b → IsTrue s ↔ NamesUnknown v e
  unknown_else r s h f k = (
    (λ t. right (k.0 t)),
    (λ n. elim (either n) [
      | inl x ↦ (let t : r ≡ true = h.1 x in cc)
      | inr x ↦ k.1 x
    ]),
  )

false_true : {P : Type 0} → IsTrue false → P
false_true t = let e : false ≡ true = t in absurd (true≢false (sym e))

-- an expression of no variable
pub unknown_none : (v : Visible) (e : Expression) → variables e ≡ [] → IsTrue false ↔ NamesUnknown v e
unknown_none v e p = (false_true, (λ h. absurd (none_in_nil h.0 (subst (λ xs. Contains xs h.0) p h.1))))

-- one with the variables of another
pub unknown_same : (v : Visible) (a e : Expression) → variables e ≡ variables a → (r : Bool) → IsTrue r ↔ NamesUnknown v a →
    IsTrue r ↔ NamesUnknown v e
unknown_same v a e p r h =
    subst (λ xs. IsTrue r ↔ ((name : List ℕ) × Contains xs name × (Contains (names v) name → ⊥))) (sym p) h

-- a variable
pub unknown_variable : (v : Visible) (name : List ℕ) (e : Expression) → variables e ≡ name ∷ [] → (seen : Bool) →
    IsTrue seen ↔ Contains (names v) name → IsTrue (not seen) ↔ NamesUnknown v e
unknown_variable v name e p true h = (false_true, (λ n. absurd (n.2 (own n.0 (in_rest name [] n.0 (subst (λ xs. Contains xs n.0) p n.1))))))
  where
    own : (other : List ℕ) → (name ≡ other) ⊎ Contains [] other → Contains (names v) other
    own other (inl q) = subst (Contains (names v)) q (h.0 refl)
    own other (inr i) = absurd (none_in_nil other i)
unknown_variable v name e p false h = (
  (λ t. (name, subst (λ xs. Contains xs name) (sym p) (0, omega arith, refl), (λ c. true≢false (sym (h.1 c))))),
  (λ n. refl),
)
