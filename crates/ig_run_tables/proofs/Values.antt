-- Lists of expressions of which one has no value.
use Rattle.std.proofs.Common.{◌≡◌, ℕ, zero, suc, List, [], ◌∷◌, Some, None, Option, sym, ap, ◌∙◌, map, slice_get}
use Rattle.std.proofs.lemmas.Option.{same_Some}
use Rattle.ig_expr.specs.declared.value.Value.{Value}

-- where one of the expressions has no value, they have no values
pub no_values : {A B : Type 0} (g : A → B) (f : B → Option Value) (xs : List A) (vs : List Value) (i : ℕ) (x : A) → slice_get xs i ≡ Some x →
    f (g x) ≡ None → map f (map g xs) ≡ map Some vs → ⊥
no_values g f [] vs i x at none e = cc
no_values g f (y ∷ xs) [] i x at none e = cc
no_values g f (y ∷ xs) (v ∷ vs) zero x at none e =
    let same = same_Some y x at in let a : f (g y) ≡ Some v = head e in let b : Some v ≡ None = sym a ∙ ap (λ z. f (g z)) same ∙ none in cc
  where
    head : {a b : Option Value} {us ws : List (Option Value)} → a ∷ us ≡ b ∷ ws → a ≡ b
    head h = cc
no_values g f (y ∷ xs) (v ∷ vs) (suc i) x at none e = no_values g f xs vs i x at none (tail e)
  where
    tail : {a b : Option Value} {us ws : List (Option Value)} → a ∷ us ≡ b ∷ ws → us ≡ ws
    tail h = cc
