-- One more child of the last part.
use Rattle.std.proofs.Common.{◌≡◌, ℕ, ◌+◌, List, [], ◌∷◌, ◌++◌, sym, ap, ◌∙◌}
use Rattle.ig_walker.specs.Written.{bump_last}
use Rattle.ig_forest.specs.declared.tree.Part.{Part}
use Rattle.ig_walker.proofs.Unfolding.{bump_last_at}

pub bumped_code : (old left new : List Part) (q : Part) (n : ℕ) → old ≡ left ++ q ∷ [] →
    new ≡ left ++ record { tag = q.tag; span = q.span; children = n } ∷ [] → n ≡ q.children + 1 → new ≡ bump_last old
bumped_code old left new q n popped pushed more =
    pushed ∙ ap (λ (m : ℕ). left ++ record { tag = q.tag; span = q.span; children = m } ∷ []) more
    ∙ sym (bump_last_at left q) ∙ ap bump_last (sym popped)
