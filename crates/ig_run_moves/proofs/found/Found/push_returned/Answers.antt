use Rattle.std.proofs.Common.{◌∙◌, ◌++◌, ◌∷◌, [], length, slice_get, ap, refl}
use Rattle.ig_text.proofs.Lists.{place_last}
use Rattle.ig_run_tables.specs.Returned.{entry}
use Rattle.ig_run_moves.specs.Finding.{Finding}
use Rattle.ig_run_moves.proofs.Keeping.{kept_indexed, kept_same}
use Rattle.ig_run_moves.proofs.found.Found.push_returned.Goals as goal

pub invariant_of-self-2 : goal.invariant_of-self-2
invariant_of-self-2 g c =
    let after = c.self-2.inside in
    let number = c.in_ok-number.number in
    let items = c.args.self.now.items in
    let is =
    c.in_ok-number.ensures.number ∙ ap length c.as_slice.ensures.value ∙ ap (λ (f : Finding). length f.items) c.self.view_is in
    let at =
    ap (λ (f : Finding). slice_get f.items number) c.self-2.view_is ∙
    ap (λ z. slice_get z number) c.in_ok-push.ensures.pushed.items ∙
    ap (slice_get (items ++ c.args.item ∷ [])) is ∙ place_last items c.args.item in
    kept_same after.items.items _ after.ways _ (after.index ++ entry c.args.item number ∷ []) _
    (g.S.Schedule.waiting after.schedule) _ refl refl c.in_ok-add.ensures.ok refl
    (kept_indexed after.items.items after.ways after.index (g.S.Schedule.waiting after.schedule) c.self-2.invariant c.args.item number at)
