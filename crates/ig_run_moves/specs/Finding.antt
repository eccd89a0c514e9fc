-- What a run over a work list has found, and what waits in it.
use Rattle.std.specs.Prelude.{◌≡◌, ℕ, ◌+◌, List, [], ◌∷◌, ◌++◌, length, map, take, Contains, Some, slice_get}
use Rattle.std.specs.List.Sorted.{IsPermutation}
use Rattle.ig_item.specs.Ways.{WayLists}
use Rattle.ig_item.specs.WellKinded.{NoneTwice}
use Rattle.ig_item.specs.declared.items.Item as stored
use Rattle.ig_item.specs.declared.ways.Way.{Way}
use Rattle.ig_item.specs.declared.ways.Way.TheVariants.{Node}
use Rattle.ig_item.specs.declared.ways.FurtherWay.{FurtherWay}
use Rattle.ig_item.specs.declared.ways.FurtherEnd.{FurtherEnd}
use Rattle.ig_queue.specs.declared.ticket.Ticket.{Ticket}
use Rattle.ig_run_tables.specs.Returned.{Entry}

-- the items in the order of finding, the ways to them, the tickets that wait, in an order that says nothing, and those of the
-- items that are indexed, which can be looked up
pub record Finding : Type 0 where
  pub items : List stored.Item
  pub ways : WayLists
  pub waiting : List Ticket
  pub indexed : List stored.Item

-- the ticket of an item that has this number
abbrev pub ticket_of : stored.Item → ℕ → Ticket
ticket_of x number = record { position = x.position; number = number }

-- the ticket is that of an item which was found
pub record IsTicket (items : List stored.Item) (t : Ticket) : Type 0 where
  pub item : stored.Item
  pub there : slice_get items t.number ≡ Some item
  pub position : t.position ≡ item.position

-- no item is there twice, each has the way in which it was found, each ticket that waits is that of an item, and what is
-- indexed is there
pub record IsFinding (f : Finding) : Type 0 where
  pub once : NoneTwice f.items
  pub numbered : length f.ways.firsts ≡ length f.items
  pub tickets : (t : Ticket) → Contains f.waiting t → IsTicket f.items t
  pub waits_once : NoneTwice f.waiting
  pub indexed : (x : stored.Item) → Contains f.indexed x → Contains f.items x

-- one way more to a new item; to an item once more; one further complete item more
abbrev pub with_first : WayLists → Way → WayLists
with_first lists way = record { firsts = lists.firsts ++ way ∷ []; further = lists.further; ends = lists.ends }

abbrev pub with_further : WayLists → FurtherWay → WayLists
with_further lists way = record { firsts = lists.firsts; further = lists.further ++ way ∷ []; ends = lists.ends }

abbrev pub with_end : WayLists → FurtherEnd → WayLists
with_end lists end = record { firsts = lists.firsts; further = lists.further; ends = lists.ends ++ end ∷ [] }

-- b is a with the item at the end, which was found in that way and waits
pub record Pushed (a b : Finding) (item : stored.Item) (way : Way) : Type 0 where
  pub items : b.items ≡ a.items ++ item ∷ []
  pub ways : b.ways ≡ with_first a.ways way
  pub waiting : IsPermutation (ticket_of item (length a.items) ∷ a.waiting) b.waiting

-- b is a with a way by a call: to an item that wasn't there, and is indexed now, or once more to the one that was
pub data Returns (a b : Finding) (item : stored.Item) (prev done : ℕ) : Type 0 where
  new : (Contains a.items item → ⊥) → Pushed a b item (Node prev done) → b.indexed ≡ a.indexed ++ item ∷ [] →
      Returns a b item prev done
  again : (number : ℕ) → slice_get a.items number ≡ Some item →
      b ≡ record a { ways = with_further a.ways (record { item = number; prev = prev; done = done }) } →
      Returns a b item prev done

-- where memory ran out, b is a, or a with the item at the end, whose ticket lacks
pub data CutOff (a b : Finding) (item : stored.Item) (way : Way) : Type 0 where
  before : b ≡ a → CutOff a b item way
  behind : b ≡ record a { items = a.items ++ item ∷ []; ways = with_first a.ways way } → CutOff a b item way

-- what a struct of items, ways, the index and tickets keeps. A way that was added before memory ran out may stand behind those
-- of the items
pub record IsKept (items : List stored.Item) (lists : WayLists) (index : List Entry) (waiting : List Ticket) : Type 0 where
  pub once : NoneTwice items
  pub tickets : (t : Ticket) → Contains waiting t → IsTicket items t
  pub waits_once : NoneTwice waiting
  pub numbered : (n : ℕ) × (length lists.firsts ≡ length items + n)
  pub indexed : (e : Entry) → Contains index e → slice_get items e.number ≡ Some e.item

-- the items of the index
abbrev pub items_of : List Entry → List stored.Item
items_of index = map (λ e. e.item) index

-- the ways of those items alone
abbrev pub ways_to : List stored.Item → WayLists → WayLists
ways_to items lists = record { firsts = take (length items) lists.firsts; further = lists.further; ends = lists.ends }
