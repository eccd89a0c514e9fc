-- What a run has found, as more is found, and as tickets are taken.
use Rattle.std.proofs.Common.{◌≡◌, ◌∙◌, ⊎_elim, ℕ, zero, suc, ◌+◌, List, [], ◌∷◌, ◌++◌, Some, length, Contains, slice_get, refl, sym, ap, subst, arith, length-append}
use Rattle.std.specs.List.Sorted.{IsPermutation}
use Rattle.std.proofs.lemmas.List.{take_all, length-take-le, take-append-le}
use Rattle.std.proofs.lemmas.List.Sorted.{IsPermutation-sym, Contains-permutation}
use Rattle.std.proofs.lemmas.Option.{get_or_from_slice_get, slice_get_within}
use Rattle.std.proofs.lemmas.List.Elements.{Contains-append_cases}
use Rattle.ig_text.proofs.Lists.{at_from_contains, contains_from_at, contains_one, contains_first, contains_later, in_rest, left_at, none_in_nil, place_last, unmapped_in}
use Rattle.ig_text.proofs.Differing.{both_differ, one_differs, pushed_differ}
use Rattle.ig_item.specs.Ways.{WayLists}
use Rattle.ig_item.specs.WellKinded.{NoneTwice}
use Rattle.ig_item.specs.declared.items.Item as stored
use Rattle.ig_item.specs.declared.ways.Way.{Way}
use Rattle.ig_item.specs.declared.ways.FurtherWay.{FurtherWay}
use Rattle.ig_item.specs.declared.ways.FurtherEnd.{FurtherEnd}
use Rattle.ig_queue.specs.declared.ticket.Ticket.{Ticket}
use Rattle.ig_run_tables.specs.Returned.{Entry, entry}
use Rattle.ig_run_moves.specs.Finding.{IsFinding, IsKept, IsTicket, items_of, ticket_of, ways_to, with_end, with_first, with_further}
use Rattle.ig_run_moves.proofs.Shuffled.{shuffled_differ}

-- of the same lists
pub kept_same : (items items2 : List stored.Item) (lists lists2 : WayLists) (index index2 : List Entry) (waiting waiting2 : List Ticket) →
    items2 ≡ items → lists2 ≡ lists → index2 ≡ index → waiting2 ≡ waiting → IsKept items lists index waiting →
    IsKept items2 lists2 index2 waiting2
kept_same items items2 lists lists2 index index2 waiting waiting2 a b c d kept =
    subst (λ (z : List stored.Item). IsKept z lists2 index2 waiting2) (sym a)
    (subst (λ (z : WayLists). IsKept items z index2 waiting2) (sym b)
    (subst (λ (z : List Entry). IsKept items lists z waiting2) (sym c)
    (subst (λ (z : List Ticket). IsKept items lists index z) (sym d) kept)))

-- nothing is found
pub kept_none : IsKept [] (record { firsts = []; further = []; ends = [] }) [] []
kept_none =
    record {
      once = λ i j x a b. cc a;
      tickets = λ t c. absurd (none_in_nil t c);
      waits_once = λ i j x a b. cc a;
      numbered = (0, refl);
      indexed = λ e c. absurd (none_in_nil e c);
    }

module _ (items : List stored.Item) (lists : WayLists) (index : List Entry) (waiting : List Ticket) (kept : IsKept items lists index waiting) where
  -- further ways and ends say nothing of the items
  pub kept_further : (w : FurtherWay) → IsKept items (with_further lists w) index waiting
  kept_further w =
      record {
        once = kept.once;
        tickets = kept.tickets;
        waits_once = kept.waits_once;
        numbered = kept.numbered;
        indexed = kept.indexed;
      }

  pub kept_end : (e : FurtherEnd) → IsKept items (with_end lists e) index waiting
  kept_end e =
      record {
        once = kept.once;
        tickets = kept.tickets;
        waits_once = kept.waits_once;
        numbered = kept.numbered;
        indexed = kept.indexed;
      }

  -- tickets in another order, one of which is taken
  pub kept_taken : (t : Ticket) (rest : List Ticket) → IsPermutation waiting (t ∷ rest) → IsKept items lists index rest
  kept_taken t rest moved =
      record {
        once = kept.once;
        tickets = λ u c. kept.tickets u (there u c);
        waits_once = λ i j u a b. let e = differ (suc i) (suc j) u a b in omega (arith, e);
        numbered = kept.numbered;
        indexed = kept.indexed;
      }
    where
      there : (u : Ticket) → Contains rest u → Contains waiting u
      there u c = Contains-permutation (t ∷ rest) waiting u (IsPermutation-sym waiting (t ∷ rest) moved) (contains_later t rest u c)

      differ : NoneTwice (t ∷ rest)
      differ = shuffled_differ waiting (t ∷ rest) kept.waits_once moved

  -- the ticket that was taken waited, and waits no more
  pub taken_waited : (t : Ticket) (rest : List Ticket) → IsPermutation waiting (t ∷ rest) → IsTicket items t
  taken_waited t rest moved =
      kept.tickets t (Contains-permutation (t ∷ rest) waiting t (IsPermutation-sym waiting (t ∷ rest) moved) (contains_first t rest))

  pub taken_gone : (t : Ticket) (rest : List Ticket) → IsPermutation waiting (t ∷ rest) → Contains rest t → ⊥
  taken_gone t rest moved c =
      let at = at_from_contains rest t c in
      let e = shuffled_differ waiting (t ∷ rest) kept.waits_once moved zero (suc at.0) t refl at.1 in omega (arith, e)

  -- no ticket has the number of the next item
  pub none_behind : (x : stored.Item) (number : ℕ) → number ≡ length items → Contains waiting (ticket_of x number) → ⊥
  none_behind x number is c =
      let t = kept.tickets (ticket_of x number) c in
      let l = slice_get_within items number t.item t.there in omega (arith, is, l)

  -- what contracts see
  pub is_finding : IsFinding (record { items = items; ways = ways_to items lists; waiting = waiting; indexed = items_of index })
  is_finding =
      let (n, long) = kept.numbered in
      record {
        once = kept.once;
        numbered = length-take-le (length items) lists.firsts (omega (arith, long));
        tickets = kept.tickets;
        waits_once = kept.waits_once;
        indexed = λ x c.
            let q = unmapped_in (λ (e : Entry). e.item) index x c in
            subst (Contains items) q.2 (contains_from_at items q.0.number q.0.item (kept.indexed q.0 q.1));
      }

  -- a way that is added alone
  pub kept_way : (way : Way) → length lists.firsts ≡ length items → IsKept items (with_first lists way) index waiting
  kept_way way numbered =
      record {
        once = kept.once;
        tickets = kept.tickets;
        waits_once = kept.waits_once;
        numbered = (1, longer);
        indexed = kept.indexed;
      }
    where
      longer : length (lists.firsts ++ way ∷ []) ≡ length items + 1
      longer = let a = length-append lists.firsts (way ∷ []) in omega (arith, a, numbered)

  -- an item that is indexed
  pub kept_indexed : (x : stored.Item) (number : ℕ) → slice_get items number ≡ Some x →
      IsKept items lists (index ++ entry x number ∷ []) waiting
  kept_indexed x number at =
      record {
        once = kept.once;
        tickets = kept.tickets;
        waits_once = kept.waits_once;
        numbered = kept.numbered;
        indexed = λ e c.
            ⊎_elim (λ (h : Contains index e). kept.indexed e h)
            (λ (h : Contains (entry x number ∷ []) e).
            subst (λ (z : Entry). slice_get items z.number ≡ Some z.item) (sym (contains_one (entry x number) e h)) at)
            (Contains-append_cases index (entry x number ∷ []) e c);
      }

  module _ (x : stored.Item) (way : Way) (new : Contains items x → ⊥) (numbered : length lists.firsts ≡ length items) where
    once_more : NoneTwice (items ++ x ∷ [])
    once_more = pushed_differ items x kept.once new

    longer_by_one : length (lists.firsts ++ way ∷ []) ≡ length (items ++ x ∷ []) + 0
    longer_by_one =
        let a = length-append lists.firsts (way ∷ []) in let b = length-append items (x ∷ []) in omega (arith, a, b, numbered)

    still_ticket : (t : Ticket) → IsTicket items t → IsTicket (items ++ x ∷ []) t
    still_ticket t is =
        record { item = is.item; there = left_at items (x ∷ []) t.number is.item is.there; position = is.position }

    -- an item with its way; its ticket lacks
    pub kept_pushed : IsKept (items ++ x ∷ []) (with_first lists way) index waiting
    kept_pushed =
        record {
          once = once_more;
          tickets = λ t c. still_ticket t (kept.tickets t c);
          waits_once = kept.waits_once;
          numbered = (0, longer_by_one);
          indexed = λ e c. left_at items (x ∷ []) e.number e.item (kept.indexed e c);
        }

    -- what contracts see: the way is added with its item
    pub ways_pushed : ways_to (items ++ x ∷ []) (with_first lists way) ≡ with_first (ways_to items lists) way
    ways_pushed =
        ap (λ z. record { firsts = z; further = lists.further; ends = lists.ends })
        (take_all (length (items ++ x ∷ [])) (lists.firsts ++ way ∷ []) (let l = longer_by_one in omega (arith, l)) ∙
        ap (λ z. z ++ way ∷ []) (sym (take_all (length items) lists.firsts (omega (arith, numbered)))))

  -- and not without it
  pub ways_alone : (way : Way) → length lists.firsts ≡ length items → ways_to items (with_first lists way) ≡ ways_to items lists
  ways_alone way numbered =
      ap (λ z. record { firsts = z; further = lists.further; ends = lists.ends })
      (take-append-le (length items) lists.firsts (way ∷ []) (omega (arith, numbered)))

  -- a ticket more
  pub kept_put : (t : Ticket) (more : List Ticket) → IsTicket items t → (Contains waiting t → ⊥) → IsPermutation (t ∷ waiting) more →
      IsKept items lists index more
  kept_put t more is none moved =
      record {
        once = kept.once;
        tickets = λ u c. there u (Contains-permutation more (t ∷ waiting) u (IsPermutation-sym (t ∷ waiting) more moved) c);
        waits_once = shuffled_differ (t ∷ waiting) more differ moved;
        numbered = kept.numbered;
        indexed = kept.indexed;
      }
    where
      there : (u : Ticket) → Contains (t ∷ waiting) u → IsTicket items u
      there u c = ⊎_elim (λ (h : t ≡ u). subst (IsTicket items) h is) (kept.tickets u) (in_rest t waiting u c)

      differ : NoneTwice (t ∷ waiting)
      differ =
          both_differ (t ∷ []) waiting (one_differs t) kept.waits_once
          (λ u c d. none (subst (Contains waiting) (contains_one t u c) d))

  -- an item that has no entry isn't there, if it is indexed where it is
  pub not_indexed : (x : stored.Item) → ((n : ℕ) → Contains index (entry x n) → ⊥) →
      (Contains items x → Contains (items_of index) x) → Contains items x → ⊥
  not_indexed x none inside c =
      let q = unmapped_in (λ (e : Entry). e.item) index x (inside c) in
      none q.0.number (subst (λ (y : stored.Item). Contains index (entry y q.0.number)) q.2 q.1)

-- the ticket of an item that was added at the end
pub ticket_behind : (items : List stored.Item) (x : stored.Item) (number : ℕ) → number ≡ length items →
    IsTicket (items ++ x ∷ []) (ticket_of x number)
ticket_behind items x number is =
    record {
      item = x;
      there = subst (λ n. slice_get (items ++ x ∷ []) n ≡ Some x) (sym is) (place_last items x);
      position = refl;
    }

-- the ticket of the item that has its number
pub taken_is : (items : List stored.Item) (t : Ticket) (x : stored.Item) → IsTicket items t → slice_get items t.number ≡ Some x →
    t ≡ ticket_of x t.number
taken_is items t x is at =
    let same : is.item ≡ x =
    sym (get_or_from_slice_get items t.number is.item x is.there) ∙ get_or_from_slice_get items t.number x x at in
    ap (λ n. record { position = n; number = t.number }) (is.position ∙ ap (λ (z : stored.Item). z.position) same)
