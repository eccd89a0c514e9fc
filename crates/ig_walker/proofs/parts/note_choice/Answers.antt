use Rattle.std.proofs.Common.{◌≡◌, ℕ, suc, zero, ◌<◌, ◌≤◌, [], ◌∷◌, ◌++◌, refl, sym, ap, ◌∙◌, vec_items, arith}
use Rattle.std.proofs.lemmas.Bool.{ltb-true, ltb-false}
use Rattle.std.proofs.lemmas.List.{append-nil}
use Rattle.ig_forest_tables.specs.Unfold.{noted}
use Rattle.ig_walker.proofs.parts.note_choice.Goals as goal

none_noted : (n i : ℕ) → n ≤ 1 → noted n i ≡ []
none_noted zero i h = refl
none_noted (suc zero) i h = refl
none_noted (suc (suc n)) i h = absurd (omega arith)

one_noted : (n i : ℕ) → 1 < n → i ∷ [] ≡ noted n i
one_noted zero i h = absurd (omega arith)
one_noted (suc zero) i h = absurd (omega arith)
one_noted (suc (suc n)) i h = refl

pub returns-in_ok-push : goal.returns-in_ok-push
returns-in_ok-push c =
    c.in_ok-push.ensures.items ∙ ap (λ z. vec_items c.args.numbers.now ++ z) (one_noted c.args.count c.args.choice (ltb-true 1 c.args.count (sym c.is_choice.ensures ∙ c.if-is_choice.true)))

pub returns-else-is_choice : goal.returns-else-is_choice
returns-else-is_choice c =
    sym (ap (λ z. vec_items c.args.numbers.now ++ z) (none_noted c.args.count c.args.choice (ltb-false 1 c.args.count (sym c.is_choice.ensures ∙ c.if-is_choice.false))) ∙ append-nil (vec_items c.args.numbers.now))
