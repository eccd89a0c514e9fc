use Rattle.std.proofs.Common.{Contains, sym, subst}
use Rattle.ig_run_moves.specs.Finding.{Finding}
use Rattle.ig_run_moves.proofs.Keeping.{not_indexed}
use Rattle.ig_run_moves.proofs.Returning.{over_new, returns_again, returns_new}
use Rattle.ig_run_moves.proofs.found.Found.add_returned.Goals as goal

pub push_returned-requires : goal.push_returned-requires
push_returned-requires g c =
    let before = c.self.inside in
    let absent = subst (λ (f : Finding). Contains f.items c.args.item → ⊥) c.self.view_is
    (not_indexed before.items.items before.ways before.index (g.S.Schedule.waiting before.schedule) c.self.invariant
    c.args.item c.in_default.ensures.none
    (subst (λ (f : Finding). Contains f.items c.args.item → Contains f.indexed c.args.item) (sym c.self.view_is) c.requires)) in
    absent

pub returns-in_default-clause-returned : goal.returns-in_default-clause-returned
returns-in_default-clause-returned g c =
    let before = c.self.inside in
    let absent = subst (λ (f : Finding). Contains f.items c.args.item → ⊥) c.self.view_is
    (not_indexed before.items.items before.ways before.index (g.S.Schedule.waiting before.schedule) c.self.invariant
    c.args.item c.in_default.ensures.none
    (subst (λ (f : Finding). Contains f.items c.args.item → Contains f.indexed c.args.item) (sym c.self.view_is) c.requires)) in
    returns_new c.args.self.now c.push_returned.new.self c.args.item c.args.prev c.args.done absent
    c.push_returned.result c.push_returned.ensures.pushed c.push_returned.ensures.indexed

pub returns-in_default-clause-over : goal.returns-in_default-clause-over
returns-in_default-clause-over g c =
    let before = c.self.inside in
    let absent = subst (λ (f : Finding). Contains f.items c.args.item → ⊥) c.self.view_is
    (not_indexed before.items.items before.ways before.index (g.S.Schedule.waiting before.schedule) c.self.invariant
    c.args.item c.in_default.ensures.none
    (subst (λ (f : Finding). Contains f.items c.args.item → Contains f.indexed c.args.item) (sym c.self.view_is) c.requires)) in
    over_new c.args.self.now c.push_returned.new.self c.args.item c.args.prev c.args.done absent c.args.budget
    c.push_returned.result c.push_returned.ensures.over

pub returns-clause-returned : goal.returns-clause-returned
returns-clause-returned g c =
    let before = c.self.inside in
    returns_again before.items.items before.ways c.push_further.new.self before.index (g.S.Schedule.waiting before.schedule)
    c.args.self.now c.args.item c.in-Some.item c.args.prev c.args.done c.self.invariant
    c.self.view_is c.in-Some.ensures.some
    c.in_ok-push_further.ensures.ok
