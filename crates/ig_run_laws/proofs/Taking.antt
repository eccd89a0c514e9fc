-- A ticket is taken: its item is known from then on.
use Rattle.std.proofs.Common.{◌≡◌, ◌⊎◌, ⊎_elim, inl, inr, ℕ, List, Contains, sym, ap, ◌∙◌, subst, slice_get}
use Rattle.std.proofs.lemmas.Option.{same_Some}
use Rattle.ig_text.specs.Input.{Input}
use Rattle.ig_text.proofs.Lists.{contains_from_at}
use Rattle.ig_item.specs.Items.{Item}
use Rattle.ig_item.specs.declared.core_grammar.Nonterminal.{Nonterminal}
use Rattle.ig_queue.specs.declared.ticket.Ticket.{Ticket}
use Rattle.ig_run_laws.specs.Finding.{Finding, IsTaken, Takes, ticket_of}
use Rattle.ig_run_laws.specs.Run.{IsRun}
use Rattle.ig_run_laws.proofs.Grown.{same_or}
use Rattle.ig_run_laws.proofs.Known.{IsKnownToo}

-- taken items are found
pub taken_found : (found : List Item) (waiting : List Ticket) (y : Item) → IsTaken found waiting y → Contains found y
taken_found found waiting y t = contains_from_at found t.number y t.there

module _ (core : List Nonterminal) (text : Input) (a : Finding) (rest : List Ticket) (t : Ticket) (it : Item)
    (r : IsRun core text a.items a.waiting) (w : Takes a rest t it) where
  here : t.position ≡ it.position
  here =
      let k = r.tickets t w.there in
      let same : k.item ≡ it = same_Some k.item it (sym k.there ∙ w.at) in k.position ∙ ap (λ (z : Item). z.position) same

  is_ticket : ticket_of it t.number ≡ t
  is_ticket = ap (λ (z : ℕ). record { position = z; number = t.number }) (sym here)

  still : (y : Item) → IsTaken a.items a.waiting y → IsTaken a.items rest y
  still y h = record { number = h.number; there = h.there; taken = λ c. h.taken ((w.rest (ticket_of y h.number)).0 c).0 }

  it_is_taken : IsTaken a.items rest it
  it_is_taken =
      record { number = t.number; there = w.at; taken = λ c. ((w.rest (ticket_of it t.number)).0 c).1 is_ticket }

  taken_or : (y : Item) → IsTaken a.items rest y → IsTaken a.items a.waiting y ⊎ (y ≡ it)
  taken_or y h =
      ⊎_elim (λ (e : h.number ≡ t.number). inr (same_Some y it (sym h.there ∙ ap (slice_get a.items) e ∙ w.at)))
      (λ (differ : h.number ≡ t.number → ⊥).
      inl (record {
        number = h.number;
        there = h.there;
        taken = λ c. h.taken ((w.rest (ticket_of y h.number)).1 (c, λ e. differ (ap (λ (z : Ticket). z.number) e)));
      }))
      (same_or h.number t.number)

  -- it wasn't taken before
  not_yet : IsTaken a.items a.waiting it → ⊥
  not_yet h =
      let n : h.number ≡ t.number = r.once h.number t.number it h.there w.at in
      h.taken (subst (Contains a.waiting) (sym (ap (ticket_of it) n ∙ is_ticket)) w.there)

  pub too : IsKnownToo (IsTaken a.items a.waiting) (IsTaken a.items rest) a.items it t.number
  too =
      record {
        there = w.at;
        once = r.once;
        is_known = it_is_taken;
        new = not_yet;
        still = still;
        or = taken_or;
        are_found = taken_found a.items a.waiting;
      }
