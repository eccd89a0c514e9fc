-- Tables that grow.
use Rattle.std.proofs.Common.{◌≡◌, ℕ, zero, suc, ◌+◌, ◌++◌, List, [], ◌∷◌, Some, refl, sym, ap, ◌∙◌, length, take, slice_get}
use Rattle.std.proofs.lemmas.Option.{none-some}
use Rattle.ig_forest_tables.specs.StoredNodes.{StoredNode, with_choice}
use Rattle.ig_forest_tables.specs.declared.node_rows.NodeRow.{NodeRow}
use Rattle.ig_forest_tables.specs.declared.entry.Choice.{Choice}
use Rattle.ig_forest_reader.specs.Shown.{Keeps}

-- what is in a list stays there when more are added
pub keeps_more : {A : Type 0} (xs ys : List A) → Keeps xs (xs ++ ys)
keeps_more [] ys k x e = absurd (none-some _ e)
keeps_more (y ∷ xs) ys zero x e = e
keeps_more (y ∷ xs) ys (suc k) x e = keeps_more xs ys k x e

-- and what is added is after the others
pub added_at : {A : Type 0} (xs : List A) (x : A) → slice_get (xs ++ x ∷ []) (length xs) ≡ Some x
added_at [] x = refl
added_at (y ∷ xs) x = added_at xs x

-- a choice is added to the last node
pub choice_added : (before : List StoredNode) (row : NodeRow) (choices : List Choice) (choice : Choice) →
    with_choice (before ++ record { row = row; alternatives = choices } ∷ []) choice ≡
    before ++ record { row = row; alternatives = choices ++ choice ∷ [] } ∷ []
choice_added [] row choices choice = refl
choice_added (x ∷ []) row choices choice = refl
choice_added (x ∷ y ∷ before) row choices choice = ap (λ (z : List StoredNode). x ∷ z) (choice_added (y ∷ before) row choices choice)

pub choice_next : (before nodes new : List StoredNode) (row : NodeRow) (choices : List Choice) (k : ℕ) (choice : Choice) →
    nodes ≡ before ++ record { row = row; alternatives = take k choices } ∷ [] → new ≡ with_choice nodes choice →
    take (k + 1) choices ≡ take k choices ++ choice ∷ [] →
    new ≡ before ++ record { row = row; alternatives = take (k + 1) choices } ∷ []
choice_next before nodes new row choices k choice is grown more =
    grown ∙ ap (λ (z : List StoredNode). with_choice z choice) is ∙ choice_added before row (take k choices) choice ∙
    ap (λ (z : List Choice). before ++ (let n : StoredNode = record { row = row; alternatives = z } in n) ∷ []) (sym more)
