-- Sequences and groups, in two parts.
use Rattle.std.proofs.Common.{◌≡◌, List, [], ◌∷◌, ◌++◌, refl, sym, ◌∙◌, ap, append_assoc}
use Rattle.std.proofs.lemmas.List.{append-nil}
use Rattle.ig_grammar.specs.Symbol.{Symbol, gathered}
use Rattle.ig_grammar.specs.Alternative.{gathered_alternatives}
use Rattle.ig_grammar.specs.Visible.{Visible, inside_sequence, inside_choices, binds, all_bind}
use Rattle.ig_grammar.specs.declared.symbol.Alt.{Alt}
use Rattle.ig_scope.specs.AlternativesTold.{from}

pub all_bind_append : (v : Visible) (xs ys : List Symbol) →
    all_bind v (gathered (xs ++ ys)) ≡ all_bind v (gathered xs) ++ all_bind (v ++ all_bind v (gathered xs)) (gathered ys)
all_bind_append v [] ys = ap (λ z. all_bind z (gathered ys)) (sym (append-nil v))
all_bind_append v (x ∷ xs) ys =
    ap (λ z. binds v x ++ z) (all_bind_append (v ++ binds v x) xs ys) ∙
    sym (append_assoc (binds v x) (all_bind (v ++ binds v x) (gathered xs)) _) ∙
    ap (λ z. (binds v x ++ all_bind (v ++ binds v x) (gathered xs)) ++ all_bind z (gathered ys))
    (append_assoc v (binds v x) (all_bind (v ++ binds v x) (gathered xs)))

pub inside_append : (v : Visible) (xs ys : List Symbol) →
    inside_sequence v (gathered (xs ++ ys)) ≡ inside_sequence v (gathered xs) ++ inside_sequence (v ++ all_bind v (gathered xs)) (gathered ys)
inside_append v [] ys = ap (λ z. inside_sequence z (gathered ys)) (sym (append-nil v))
inside_append v (x ∷ xs) ys =
    ap (λ z. from v x ++ z) (inside_append (v ++ binds v x) xs ys) ∙
    sym (append_assoc (from v x) (inside_sequence (v ++ binds v x) (gathered xs)) _) ∙
    ap (λ z. (from v x ++ inside_sequence (v ++ binds v x) (gathered xs)) ++ inside_sequence z (gathered ys))
    (append_assoc v (binds v x) (all_bind (v ++ binds v x) (gathered xs)))

pub choices_append : (v : Visible) (xs ys : List Alt) →
    inside_choices v (gathered_alternatives (xs ++ ys)) ≡ inside_choices v (gathered_alternatives xs) ++ inside_choices v (gathered_alternatives ys)
choices_append v [] ys = refl
choices_append v (x ∷ xs) ys =
    ap (λ z. inside_sequence v (gathered x.symbols) ++ z) (choices_append v xs ys) ∙
    sym (append_assoc (inside_sequence v (gathered x.symbols)) (inside_choices v (gathered_alternatives xs)) _)

-- with one symbol at the end
pub all_bind_push : (v : Visible) (xs : List Symbol) (x : Symbol) →
    all_bind v (gathered (xs ++ x ∷ [])) ≡ all_bind v (gathered xs) ++ binds (v ++ all_bind v (gathered xs)) x
all_bind_push v xs x = all_bind_append v xs (x ∷ []) ∙ ap (λ z. all_bind v (gathered xs) ++ z) (append-nil (binds (v ++ all_bind v (gathered xs)) x))

pub inside_push : (v : Visible) (xs : List Symbol) (x : Symbol) →
    inside_sequence v (gathered (xs ++ x ∷ [])) ≡ inside_sequence v (gathered xs) ++ from (v ++ all_bind v (gathered xs)) x
inside_push v xs x = inside_append v xs (x ∷ []) ∙ ap (λ z. inside_sequence v (gathered xs) ++ z) (append-nil (from (v ++ all_bind v (gathered xs)) x))

pub choices_push : (v : Visible) (xs : List Alt) (x : Alt) →
    inside_choices v (gathered_alternatives (xs ++ x ∷ [])) ≡ inside_choices v (gathered_alternatives xs) ++ inside_sequence v (gathered x.symbols)
choices_push v xs x = choices_append v xs (x ∷ []) ∙ ap (λ z. inside_choices v (gathered_alternatives xs) ++ z) (append-nil (inside_sequence v (gathered x.symbols)))
