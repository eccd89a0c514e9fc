-- A cell that is written to names another one as the next.
use Rattle.std.proofs.Common.{◌≡◌, ℕ, zero, suc, ◌-◌, ◌<◌, ◌≤◌, List, [], ◌∷◌, Some, length, set, refl, sym, ap, ◌∙◌, subst, arith, slice_get}
use Rattle.std.specs.Prelude.{get_or}
use Rattle.std.proofs.lemmas.Option.{same_Some, slice_get_read}
use Rattle.ig_run_moves.specs.declared.waiting.Caller.{Caller}
use Rattle.ig_run_moves.specs.Waiting.{linked_at, linked}

-- linking is writing the cell with another next one
linked_set : (cells : List Caller) (k next : ℕ) (cell : Caller) → slice_get cells k ≡ Some cell →
    set cells k (record cell { next = next }) ≡ linked_at cells k next
linked_set [] k next cell at = cc
linked_set (c ∷ cells) zero next cell at = ap (λ (z : Caller). record z { next = next } ∷ cells) (sym (same_Some c cell at))
linked_set (c ∷ cells) (suc k) next cell at = ap (λ (z : List Caller). c ∷ z) (linked_set cells k next cell at)

-- where a place + 1 is written to, the cell there is linked
pub linked_is : (cells : List Caller) (last next : ℕ) (cell : Caller) → 0 < last → last ≤ length cells → cell ≡ get_or cells (last - 1) cell →
    set cells (last - 1) (record cell { next = next }) ≡ linked cells last next
linked_is cells zero next cell some within read = absurd (omega (arith, some))
linked_is cells (suc k) next cell some within read =
    let e : suc k - 1 ≡ k = omega arith in
    ap (λ (n : ℕ). set cells n (record cell { next = next })) e ∙
    linked_set cells k next cell
    (slice_get_read cells (length cells) k cell refl (omega (arith, within)) (subst (λ (n : ℕ). cell ≡ get_or cells n cell) e read))
