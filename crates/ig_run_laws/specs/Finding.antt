-- What a run has found: items, how they came about, and which of them wait.
use Rattle.std.specs.Prelude.{◌≡◌, ◌↔◌, ◌⊎◌, ℕ, ◌+◌, ◌<◌, ◌≤◌, List, [], ◌∷◌, ◌++◌, length, Contains, Some, slice_get}
use Rattle.ig_item.specs.Items.{Item}
use Rattle.ig_item.specs.Ways.{WayLists, WayTo}
use Rattle.ig_item.specs.WellKinded.{NoneTwice}
use Rattle.ig_item.specs.declared.ways.Way.{Way}
use Rattle.ig_item.specs.declared.ways.FurtherWay.{FurtherWay}
use Rattle.ig_queue.specs.declared.ticket.Ticket.{Ticket}
use Rattle.ig_run_tables.specs.Extends.{Extends}

-- the items in order of finding, how they came about, and the tickets that wait
pub record Finding : Type 0 where
  pub items : List Item
  pub lists : WayLists
  pub waiting : List Ticket

-- the ticket of an item, which has that number in the order of finding
abbrev pub ticket_of : Item → ℕ → Ticket
ticket_of x k = record { position = x.position; number = k }

-- the item is found, and its ticket doesn't wait
pub record IsTaken (found : List Item) (waiting : List Ticket) (x : Item) : Type 0 where
  pub number : ℕ
  pub there : slice_get found number ≡ Some x
  pub taken : Contains waiting (ticket_of x number) → ⊥

-- the ticket is that of an item which is found
pub record IsTicket (found : List Item) (t : Ticket) : Type 0 where
  pub item : Item
  pub there : slice_get found t.number ≡ Some item
  pub position : t.position ≡ item.position

-- the ticket is that of an item which was found after the first n
abbrev pub IsNewTicket : ℕ → List Item → Ticket → Type 0
IsNewTicket n found t = (x : Item) × (n ≤ t.number) × (slice_get found t.number ≡ Some x) × (t.position ≡ x.position)

-- the ticket, which is that of the item, waited, and the others wait on
pub record Takes (a : Finding) (left : List Ticket) (t : Ticket) (it : Item) : Type 0 where
  pub there : Contains a.waiting t
  pub rest : (u : Ticket) → Contains left u ↔ (Contains a.waiting u × (u ≡ t → ⊥))
  pub at : slice_get a.items t.number ≡ Some it

-- then that alone is changed
abbrev pub with_waiting : Finding → List Ticket → Finding
with_waiting a rest = record { items = a.items; lists = a.lists; waiting = rest }

-- an item more that was complete where its node already had one, which has the number `first`
abbrev pub with_end : Finding → ℕ → ℕ → Finding
with_end a first item =
    record {
      items = a.items;
      lists = record {
        firsts = a.lists.firsts;
        further = a.lists.further;
        ends = a.lists.ends ++ record { first = first; item = item } ∷ [];
      };
      waiting = a.waiting;
    }

-- it is recorded that the item came about in that way
abbrev pub IsRecorded : Finding → Way → Item → Type 0
IsRecorded a way x = (k : ℕ) × (slice_get a.items k ≡ Some x) × WayTo a.lists k way

-- more items were found, each of which `may` allows in some way
pub record Finds (may : Way → Item → Type 0) (before after : List Item) : Type 0 where
  pub items : Extends before after
  pub once : NoneTwice before → NoneTwice after
  pub each : (x : Item) → Contains items.more x → (way : Way) × may way x

-- of all items that `may` allows each way is recorded, and no other way was added; those that are new wait
pub record Records (may : Way → Item → Type 0) (a b : Finding) : Type 0 where
  pub items : Extends a.items b.items
  pub once : NoneTwice a.items → NoneTwice b.items
  pub firsts : Extends a.lists.firsts b.lists.firsts
  pub further : Extends a.lists.further b.lists.further
  pub ends : b.lists.ends ≡ a.lists.ends
  pub numbered : length a.lists.firsts ≡ length a.items → length b.lists.firsts ≡ length b.items
  pub there : (more : FurtherWay) → Contains further.more more → more.item < length b.items
  pub each : length a.lists.firsts ≡ length a.items → (k : ℕ) (way : Way) (x : Item) → slice_get b.items k ≡ Some x →
      WayTo b.lists k way → WayTo a.lists k way ⊎ may way x
  pub has : (way : Way) (x : Item) → may way x → IsRecorded b way x
  pub waiting : (t : Ticket) → Contains b.waiting t ↔ (Contains a.waiting t ⊎ IsNewTicket (length a.items) b.items t)
  pub counts : length b.items + length a.waiting ≡ length a.items + length b.waiting
