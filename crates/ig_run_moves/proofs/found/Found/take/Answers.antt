use Rattle.std.proofs.Common.{◌≡◌, ◌∷◌, Some, Contains, slice_get, refl, sym, subst, arith}
use Rattle.std.specs.List.Sorted.{IsPermutation}
use Rattle.std.proofs.lemmas.Option.{slice_get_read, slice_get_within}
use Rattle.ig_queue.specs.declared.ticket.Ticket.{Ticket}
use Rattle.ig_run_moves.specs.Finding.{Finding, ticket_of}
use Rattle.ig_run_moves.proofs.Keeping.{kept_taken, taken_gone, taken_is, taken_waited}
use Rattle.ig_run_moves.proofs.found.Found.take.Goals as goal

pub index-requires : goal.index-requires
index-requires g c =
    let ticket = taken_waited c.self.inside.items.items c.self.inside.ways c.self.inside.index
    (g.S.Schedule.waiting c.self.inside.schedule) c.self.invariant c.in_ok-ticket.ticket
    (g.S.Schedule.waiting c.take.new.self) c.in_ok-ticket.ensures.some in
    let within = slice_get_within c.self.inside.items.items c.in_ok-ticket.ticket.number ticket.item ticket.there in
    let long = c.self.inside.items.ok.0 in
    omega (arith, within, long)

pub invariant_of-self-2 : goal.invariant_of-self-2
invariant_of-self-2 g c =
    kept_taken c.self.inside.items.items c.self.inside.ways c.self.inside.index
    (g.S.Schedule.waiting c.self.inside.schedule) c.self.invariant c.in_ok-ticket.ticket
    (g.S.Schedule.waiting c.take.new.self) c.in_ok-ticket.ensures.some

-- the item that has the number of the ticket
pub returns-clause-found : goal.returns-clause-found
returns-clause-found g c =
    let ticket = taken_waited c.self.inside.items.items c.self.inside.ways c.self.inside.index
    (g.S.Schedule.waiting c.self.inside.schedule) c.self.invariant c.in_ok-ticket.ticket
    (g.S.Schedule.waiting c.take.new.self) c.in_ok-ticket.ensures.some in
    let within = slice_get_within c.self.inside.items.items c.in_ok-ticket.ticket.number ticket.item ticket.there in
    subst (λ (f : Finding). slice_get f.items c.in_ok-ticket.ticket.number ≡ Some c.index.result.now) c.self.view_is
    (slice_get_read c.self.inside.items.items _ c.in_ok-ticket.ticket.number c.index.result.now refl within c.index.ensures)

pub returns-clause-taken : goal.returns-clause-taken
returns-clause-taken g c =
    let ticket = taken_waited c.self.inside.items.items c.self.inside.ways c.self.inside.index
    (g.S.Schedule.waiting c.self.inside.schedule) c.self.invariant c.in_ok-ticket.ticket
    (g.S.Schedule.waiting c.take.new.self) c.in_ok-ticket.ensures.some in
    let within = slice_get_within c.self.inside.items.items c.in_ok-ticket.ticket.number ticket.item ticket.there in
    let at = slice_get_read c.self.inside.items.items _ c.in_ok-ticket.ticket.number c.index.result.now refl within c.index.ensures in
    subst (λ (f : Finding). IsPermutation f.waiting (ticket_of c.index.result.now c.in_ok-ticket.ticket.number ∷
    g.S.Schedule.waiting c.take.new.self)) c.self.view_is
    (subst (λ (t : Ticket). IsPermutation (g.S.Schedule.waiting c.self.inside.schedule) (t ∷ g.S.Schedule.waiting c.take.new.self))
    (taken_is c.self.inside.items.items c.in_ok-ticket.ticket c.index.result.now ticket at) c.in_ok-ticket.ensures.some)

pub returns-clause-gone : goal.returns-clause-gone
returns-clause-gone g c =
    let ticket = taken_waited c.self.inside.items.items c.self.inside.ways c.self.inside.index
    (g.S.Schedule.waiting c.self.inside.schedule) c.self.invariant c.in_ok-ticket.ticket
    (g.S.Schedule.waiting c.take.new.self) c.in_ok-ticket.ensures.some in
    let within = slice_get_within c.self.inside.items.items c.in_ok-ticket.ticket.number ticket.item ticket.there in
    let at = slice_get_read c.self.inside.items.items _ c.in_ok-ticket.ticket.number c.index.result.now refl within c.index.ensures in
    λ h. taken_gone c.self.inside.items.items c.self.inside.ways c.self.inside.index
    (g.S.Schedule.waiting c.self.inside.schedule) c.self.invariant c.in_ok-ticket.ticket
    (g.S.Schedule.waiting c.take.new.self) c.in_ok-ticket.ensures.some
    (subst (λ (t : Ticket). Contains (g.S.Schedule.waiting c.take.new.self) t)
    (sym (taken_is c.self.inside.items.items c.in_ok-ticket.ticket c.index.result.now ticket at)) h)
