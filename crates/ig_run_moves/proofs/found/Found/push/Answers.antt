use Rattle.std.proofs.Common.{◌∙◌, ⊎_elim, ◌++◌, ◌∷◌, [], length, Contains, ap, refl, sym, subst}
use Rattle.ig_run_moves.specs.Finding.{Finding, ticket_of, with_first}
use Rattle.ig_run_moves.proofs.Keeping.{kept_pushed, kept_put, kept_same, kept_way, none_behind, ticket_behind}
use Rattle.ig_run_moves.proofs.found.Found.push.Goals as goal

pub add_waiting-requires : goal.add_waiting-requires
add_waiting-requires g c =
    none_behind c.self.inside.items.items c.self.inside.ways c.self.inside.index (g.S.Schedule.waiting c.self.inside.schedule)
    c.self.invariant c.args.item c.in_ok-number.number (c.in_ok-number.ensures.number ∙ ap length c.as_slice.ensures.value)

pub invariant_of-self-in_err-add_waiting : goal.invariant_of-self-in_err-add_waiting
invariant_of-self-in_err-add_waiting g c =
    let before = c.self.inside in
    let waiting = g.S.Schedule.waiting before.schedule in
    let numbered = c.in_ok-number.ensures.numbered ∙ ap length c.as_slice.ensures.value in
    let absent = subst (λ (f : Finding). Contains f.items c.args.item → ⊥) (sym c.self.view_is) c.requires in
    ⊎_elim
    (λ same. kept_same before.items.items _ (with_first before.ways c.args.way) _ before.index _ waiting _ same
    c.in_ok-push.ensures.ok refl c.in_err-add_waiting.ensures.err_waiting
    (kept_way before.items.items before.ways before.index waiting c.self.invariant c.args.way numbered))
    (λ longer. kept_same (before.items.items ++ c.args.item ∷ []) _ (with_first before.ways c.args.way) _ before.index _ waiting _
    longer c.in_ok-push.ensures.ok refl c.in_err-add_waiting.ensures.err_waiting
    (kept_pushed before.items.items before.ways before.index waiting c.self.invariant c.args.item c.args.way absent numbered))
    c.in_err-add_waiting.ensures.err_items

pub invariant_of-self-2 : goal.invariant_of-self-2
invariant_of-self-2 g c =
    let before = c.self.inside in
    let waiting = g.S.Schedule.waiting before.schedule in
    let more = g.S.Schedule.waiting c.add_waiting.new.schedule in
    let is = c.in_ok-number.ensures.number ∙ ap length c.as_slice.ensures.value in
    let numbered = c.in_ok-number.ensures.numbered ∙ ap length c.as_slice.ensures.value in
    let absent = subst (λ (f : Finding). Contains f.items c.args.item → ⊥) (sym c.self.view_is) c.requires in
    let ticket = ticket_of c.args.item c.in_ok-number.number in
    kept_same (before.items.items ++ c.args.item ∷ []) _ (with_first before.ways c.args.way) _ before.index _ more _
    c.in_ok-add_waiting.ensures.items c.in_ok-push.ensures.ok refl refl
    (kept_put (before.items.items ++ c.args.item ∷ []) (with_first before.ways c.args.way) before.index waiting
    (kept_pushed before.items.items before.ways before.index waiting c.self.invariant c.args.item c.args.way absent numbered) ticket more (ticket_behind before.items.items c.args.item c.in_ok-number.number is)
    (none_behind before.items.items before.ways before.index waiting c.self.invariant c.args.item c.in_ok-number.number is)
    c.in_ok-add_waiting.ensures.waiting)
