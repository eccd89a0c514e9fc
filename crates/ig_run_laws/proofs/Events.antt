-- Behind an event exactly those items are found which follow from the taken ones.
use Rattle.std.proofs.Common.{◌≡◌, ◌⊎◌, ⊎_elim, inl, inr, ℕ, ◌<◌, ◌≤◌, List, Some, length, Contains, refl, arith, slice_get}
use Rattle.std.proofs.lemmas.Option.{slice_get_within}
use Rattle.ig_text.specs.Input.{Input}
use Rattle.ig_text.proofs.Lists.{at_from_contains, contains_from_at, get_within}
use Rattle.ig_item.specs.Induction.{follows_more}
use Rattle.ig_item.specs.Items.{Item, Follows, Reachable}
use Rattle.ig_item.specs.Laws.{ReachableIsClosed}
use Rattle.ig_item.specs.Ways as ways
use Rattle.ig_item.specs.Ways.{WayTo}
use Rattle.ig_item.specs.declared.core_grammar.Nonterminal.{Nonterminal}
use Rattle.ig_item.specs.declared.ways.Way.{Way}
use Rattle.ig_queue.specs.declared.ticket.Ticket.{Ticket}
use Rattle.ig_run_laws.specs.AfterBy.{AfterBy}
use Rattle.ig_run_laws.specs.Finding.{Finding, Records, IsTaken, IsTicket, IsNewTicket, Takes, ticket_of, with_waiting}
use Rattle.ig_run_laws.specs.Laws.{AllFollowsInSomeWay, EventsTakeOne}
use Rattle.ig_run_laws.specs.Rules.{After}
use Rattle.ig_run_laws.specs.Run.{IsRun, IsWhole}
use Rattle.ig_run_laws.specs.Stacks.{Node}
use Rattle.ig_run_laws.proofs.After.{splits, after_follows, by_after, after_by}
use Rattle.ig_run_laws.proofs.Grown.{below_or, extends_at, extends_in, front_at}
use Rattle.ig_run_laws.proofs.Known.{IsKnownToo}
use Rattle.ig_run_laws.proofs.Taking.{taken_found, too}

module _ (core : List Nonterminal) (text : Input) (a : Finding) (nodes : List Node) (rest : List Ticket) (t : Ticket) (it : Item)
    (whole : IsWhole core text a nodes) (w : Takes a rest t it) where
  abbrev known : Item → Type 0
  known = IsTaken a.items rest

  pub known_too : IsKnownToo (IsTaken a.items a.waiting) known a.items it t.number
  known_too = too core text a rest t it whole.run w

  -- what follows in some way follows
  pub way_follows : (way : Way) (x : Item) → AfterBy core text a.items nodes it t.number way x → Follows core text known x
  way_follows way x m =
      after_follows core text known it known_too.is_known x
      (after_by core text (IsTaken a.items a.waiting) known a.items it t.number nodes whole.stacks whole.have_nodes known_too way x m)

  -- what follows was found before, or follows in some way
  pub follows_or : (x : Item) → Follows core text known x →
      Contains a.items x ⊎ ((way : Way) × AfterBy core text a.items nodes it t.number way x)
  follows_or x f =
      ⊎_elim (λ (h : Follows core text (IsTaken a.items a.waiting) x). inl ((whole.run.exact x).1 h))
      (λ (h : After core text known it x).
      inr (by_after core text (IsTaken a.items a.waiting) known a.items it t.number nodes whole.stacks whole.have_nodes known_too x h))
      (splits core text (IsTaken a.items a.waiting) known it known_too.or x f)

  pub old_follow : (x : Item) → Contains a.items x → Follows core text known x
  old_follow x c = follows_more core text known_too.still ((whole.run.exact x).0 c)

  pub known_reachable : (x : Item) → known x → Reachable core text x
  known_reachable x k = whole.run.reachable x (taken_found a.items rest x k)

  -- a way to an item of that number was there before: the number was, too
  pub way_within : (k : ℕ) (way : Way) → WayTo a.lists k way → k < length a.items
  way_within k way (ways.found at) =
      let l = slice_get_within a.lists.firsts k way at in let n = whole.trail.number in omega (arith, l, n)
  way_within k way (ways.again more c e is) = let l = whole.trail.there more c in omega (arith, l, e)

  module _ (b : Finding) (may : Way → Item → Type 0) (d : Records may (with_waiting a rest) b) where
    pub taken_forth : (x : Item) → known x → IsTaken b.items b.waiting x
    taken_forth x h =
        record {
          number = h.number;
          there = extends_at a.items b.items h.number x d.items h.there;
          taken = λ c.
              ⊎_elim h.taken
              (λ (n : IsNewTicket (length a.items) b.items (ticket_of x h.number)).
              let l = slice_get_within a.items h.number x h.there in let m = n.1 in omega (arith, l, m))
              ((d.waiting (ticket_of x h.number)).0 c);
        }

    pub taken_back : (x : Item) → IsTaken b.items b.waiting x → known x
    taken_back x h =
        ⊎_elim
        (λ (l : h.number < length a.items).
        record {
          number = h.number;
          there = front_at a.items b.items d.items h.number x l h.there;
          taken = λ c. h.taken ((d.waiting (ticket_of x h.number)).1 (inl c));
        })
        (λ (l : length a.items ≤ h.number).
        absurd (h.taken ((d.waiting (ticket_of x h.number)).1 (inr (x, l, h.there, refl)))))
        (below_or h.number (length a.items))

    -- a way to an item was recorded before, or is one that is allowed
    pub way_or : (k : ℕ) (x : Item) (way : Way) → slice_get b.items k ≡ Some x → WayTo b.lists k way →
        ((slice_get a.items k ≡ Some x) × WayTo a.lists k way) ⊎ may way x
    way_or k x way at to =
        ⊎_elim
        (λ (h : WayTo a.lists k way). inl (front_at a.items b.items d.items k x (way_within k way h) at, h))
        (λ (h : may way x). inr h) (d.each whole.trail.number k way x at to)

    -- an item was found before, or is one that is allowed
    pub found_or : (x : Item) → Contains b.items x → Contains a.items x ⊎ ((way : Way) × may way x)
    found_or x c =
        let at = at_from_contains b.items x c in
        let l = slice_get_within b.items at.0 x at.1 in
        let n = d.numbered whole.trail.number in
        let way = get_within b.lists.firsts at.0 (omega (arith, l, n)) in
        ⊎_elim (λ (h : (slice_get a.items at.0 ≡ Some x) × WayTo a.lists at.0 way.0). inl (contains_from_at a.items at.0 x h.0))
        (λ (h : may way.0 x). inr (way.0, h)) (way_or at.0 x way.0 at.1 (ways.found way.1))

    module _ (law : ReachableIsClosed) (sound : (way : Way) (x : Item) → may way x → Follows core text known x)
        (complete : (x : Item) → Follows core text known x → Contains a.items x ⊎ ((way : Way) × may way x)) where
      tickets : (u : Ticket) → Contains b.waiting u → IsTicket b.items u
      tickets u c =
          ⊎_elim
          (λ (h : Contains rest u).
          let k = whole.run.tickets u ((w.rest u).0 h).0 in
          record { item = k.item; there = extends_at a.items b.items u.number k.item d.items k.there; position = k.position })
          (λ (h : IsNewTicket (length a.items) b.items u). record { item = h.0; there = h.2; position = h.3 })
          ((d.waiting u).0 c)

      pub found_follow : (x : Item) → Contains b.items x → Follows core text known x
      found_follow x c =
          ⊎_elim (old_follow x) (λ (h : (way : Way) × may way x). sound h.0 x h.1) (found_or x c)

      follow_found : (x : Item) → Follows core text known x → Contains b.items x
      follow_found x f =
          ⊎_elim (λ (h : Contains a.items x). extends_in a.items b.items x d.items h)
          (λ (h : (way : Way) × may way x). let q = d.has h.0 x h.1 in contains_from_at b.items q.0 x q.1)
          (complete x f)

      pub runs_on : IsRun core text b.items b.waiting
      runs_on =
          record {
            once = d.once whole.run.once;
            tickets = tickets;
            exact = λ x. (
              λ c. follows_more core text taken_forth (found_follow x c),
              λ f. follow_found x (follows_more core text taken_back f),
            );
            reachable = λ x c. law core text x (follows_more core text known_reachable (found_follow x c));
          }

pub events_take_one : EventsTakeOne
events_take_one core text a b nodes rest t it whole w d x = (
  taken_back core text a nodes rest t it whole w b (AfterBy core text a.items nodes it t.number) d x,
  taken_forth core text a nodes rest t it whole w b (AfterBy core text a.items nodes it t.number) d x,
)

pub all_follows_in_some_way : AllFollowsInSomeWay
all_follows_in_some_way core text a nodes rest t it whole w x = (
  by_after core text (IsTaken a.items a.waiting) (IsTaken a.items rest) a.items it t.number nodes whole.stacks whole.have_nodes
      (known_too core text a nodes rest t it whole w) x,
  λ q. after_by core text (IsTaken a.items a.waiting) (IsTaken a.items rest) a.items it t.number nodes whole.stacks whole.have_nodes
      (known_too core text a nodes rest t it whole w) q.0 x q.1,
)
