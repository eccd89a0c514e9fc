use Rattle.std.proofs.Common.{◌≡◌, ◌<◌, ◌≤◌, Some, Contains, length, slice_get, arith, subst, sym, ap, ◌∙◌}
use Rattle.ig_text.proofs.Lists.{among_all}
use Rattle.std.proofs.lemmas.Option.{slice_get-get_or}
use Rattle.ig_plain.proofs.Arriving.{no_others, no_others_pushed, parted_none, parted_all, parted_here, parted_kept}
use Rattle.ig_plain.proofs.saturation.part.Goals as goal
use Rattle.ig_plain.proofs.saturation.part.Goals.{then-item-position+in_ok-push+in_ok-push-2, else-item-position}

pub loop-place-init : goal.loop-place-init
loop-place-init c =
    record { parted = parted_none c.args.position c.args.later.now.items c.args.prevs.now.items c.args.here.now.items c.args.ways.now }

pub index_mut-requires : goal.index_mut-requires
index_mut-requires c =
    let l = c.loop-place.invariant.parted.behind in let n = c.loop-place.invariant.parted.items_left.long in
    omega (arith, l, n, c.loop-place-test.true, c.len-place-end.ensures)

pub index_mut-requires-else-item-position : goal.index_mut-requires-else-item-position
index_mut-requires-else-item-position c =
    let l = c.loop-place.invariant.parted.behind in let n = c.loop-place.invariant.parted.prevs_left.long in
    omega (arith, l, n, c.requires.numbered, c.loop-place-test.true, c.len-place-end.ensures)

pub overflow_add-kept : goal.overflow_add-kept
overflow_add-kept c = let l = c.loop-place.invariant.parted.behind in omega (arith, l, c.loop-place-test.true, c.len-place-end.type_inv)

pub loop-place-preserved : goal.loop-place-preserved
loop-place-preserved c =
    let p = c.loop-place.invariant.parted in
    let n = p.items_left.long in
    let m = p.prevs_left.long in
    let i : c.loop-place.place < length c.loop-place.later.items = omega (arith, n, c.loop-place-test.true, c.len-place-end.ensures) in
    let k : c.loop-place.place < length c.loop-place.prevs.items = omega (arith, i, n, m, c.requires.numbered) in
    let at : slice_get c.loop-place.later.items c.loop-place.place ≡ Some c.index-item.result.now =
    slice_get-get_or c.loop-place.later.items c.loop-place.place _ i ∙ ap Some (sym c.index-item.ensures) in
    let prev_at : slice_get c.loop-place.prevs.items c.loop-place.place ≡ Some c.index-prev.result.now =
    slice_get-get_or c.loop-place.prevs.items c.loop-place.place _ k ∙ ap Some (sym c.index-prev.ensures) in
    elim c.if-item-position.branch [
      | then-item-position+in_ok-push+in_ok-push-2 w ↦ rw (w.here-is, w.ways-is, w.later-is, w.prevs-is, w.kept-is) (record {
        parted = parted_here _ _ _ _ _ _ _ _ _ _ _ _ _ c.requires.numbered at prev_at p _ _ w.if-item-position.true w.in_ok-push.ensures.items
            w.in_ok-push-2.ensures.ok;
      })
      | else-item-position w ↦ rw (w.here-is, w.ways-is, w.later-is, w.prevs-is, w.kept-is) (record {
        parted = parted_kept _ _ _ _ _ _ _ _ _ _ _ _ _ c.requires.numbered at prev_at p w.if-item-position.false;
      })
    ]

pub returns-clause-parted : goal.returns-clause-parted
returns-clause-parted c =
    let le : length c.args.later.now.items ≤ c.loop-place.place = omega (arith, c.loop-place-test.false, c.len-place-end.ensures) in
    rw c.truncate.ensures.items (parted_all _ _ _ _ _ _ _ _ _ _ _ c.requires.numbered le c.loop-place.invariant.parted).0

pub returns-clause-ways : goal.returns-clause-ways
returns-clause-ways c =
    let le : length c.args.later.now.items ≤ c.loop-place.place = omega (arith, c.loop-place-test.false, c.len-place-end.ensures) in
    rw (c.truncate.ensures.items, c.truncate-2.ensures.items)
    (parted_all _ _ _ _ _ _ _ _ _ _ _ c.requires.numbered le c.loop-place.invariant.parted).1

pub returns-in_err-push-clause-there : goal.returns-in_err-push-clause-there
returns-in_err-push-clause-there c =
    let p = c.loop-place.invariant.parted in
    let n = p.items_left.long in
    let m = p.prevs_left.long in
    let i : c.loop-place.place < length c.loop-place.later.items = omega (arith, n, c.loop-place-test.true, c.len-place-end.ensures) in
    let k : c.loop-place.place < length c.loop-place.prevs.items = omega (arith, i, n, m, c.requires.numbered) in
    let at : slice_get c.loop-place.later.items c.loop-place.place ≡ Some c.index-item.result.now =
    slice_get-get_or c.loop-place.later.items c.loop-place.place _ i ∙ ap Some (sym c.index-item.ensures) in
    let prev_at : slice_get c.loop-place.prevs.items c.loop-place.place ≡ Some c.index-prev.result.now =
    slice_get-get_or c.loop-place.prevs.items c.loop-place.place _ k ∙ ap Some (sym c.index-prev.ensures) in
    no_others_pushed _ _ _ _ _ _ _ _ _ _ _ _ _ c.requires.numbered at prev_at p _ _ c.push.ensures.items

pub returns-in_err-push-2-clause-there : goal.returns-in_err-push-2-clause-there
returns-in_err-push-2-clause-there c =
    let p = c.loop-place.invariant.parted in
    let n = p.items_left.long in
    let m = p.prevs_left.long in
    let i : c.loop-place.place < length c.loop-place.later.items = omega (arith, n, c.loop-place-test.true, c.len-place-end.ensures) in
    let k : c.loop-place.place < length c.loop-place.prevs.items = omega (arith, i, n, m, c.requires.numbered) in
    let at : slice_get c.loop-place.later.items c.loop-place.place ≡ Some c.index-item.result.now =
    slice_get-get_or c.loop-place.later.items c.loop-place.place _ i ∙ ap Some (sym c.index-item.ensures) in
    let prev_at : slice_get c.loop-place.prevs.items c.loop-place.place ≡ Some c.index-prev.result.now =
    slice_get-get_or c.loop-place.prevs.items c.loop-place.place _ k ∙ ap Some (sym c.index-prev.ensures) in
    no_others_pushed _ _ _ _ _ _ _ _ _ _ _ _ _ c.requires.numbered at prev_at p _ _ c.push.ensures.items

pub returns-clause-there : goal.returns-clause-there
returns-clause-there c =
    let now = no_others _ _ _ _ _ _ _ _ _ _ _ c.loop-place.invariant.parted in
    record {
      at = now.at;
      behind = λ x h. now.behind x (among_all c.loop-place.later.items c.loop-place.kept x (subst (λ z. Contains z x) c.truncate.ensures.items h));
    }
