-- An item behind a call, which is new or was there.
use Rattle.std.proofs.Common.{◌≡◌, ℕ, ◌<◌, List, [], ◌∷◌, ◌++◌, Ok, Err, Result, OnOk, IfErr, length, Contains, ap, subst}
use Rattle.ig_item.specs.Ways.{WayLists}
use Rattle.ig_item.specs.declared.items.Item as stored
use Rattle.ig_item.specs.declared.run_fault.RunFault.{RunFault}
use Rattle.ig_item.specs.declared.run_fault.RunFault.TheVariants.{Budget}
use Rattle.ig_item.specs.declared.ways.Way.TheVariants.{Node}
use Rattle.ig_queue.specs.declared.ticket.Ticket.{Ticket}
use Rattle.ig_run_tables.specs.Returned.{Entry, entry}
use Rattle.ig_run_moves.specs.Finding.{Finding, IsKept, Pushed, Returns, new, again, items_of, ways_to, with_further}

module _ (a b : Finding) (item : stored.Item) (prev done : ℕ) (absent : Contains a.items item → ⊥) where
  -- it is new
  pub returns_new : (r : Result (Unit {0}) RunFault) → OnOk r (Pushed a b item (Node prev done)) →
      OnOk r (b.indexed ≡ a.indexed ++ item ∷ []) → OnOk r (Returns a b item prev done)
  returns_new (Ok u) pushed indexed = new absent pushed indexed
  returns_new (Err f) pushed indexed = tt

  -- and one too many
  pub over_new : (budget : ℕ) (r : Result (Unit {0}) RunFault) →
      IfErr r (λ f. f ≡ Budget → Pushed a b item (Node prev done) × (budget < length b.items)) →
      IfErr r (λ f. f ≡ Budget → (Contains a.items item → ⊥) × Pushed a b item (Node prev done) × (budget < length b.items))
  over_new budget (Ok u) over = tt
  over_new budget (Err f) over = λ is. (absent, (over is).0, (over is).1)

-- it was there, by what the index says
pub returns_again : (items : List stored.Item) (lists lists2 : WayLists) (index : List Entry) (waiting : List Ticket) (a : Finding)
    (item : stored.Item) (number prev done : ℕ) → IsKept items lists index waiting →
    record { items = items; ways = ways_to items lists; waiting = waiting; indexed = items_of index } ≡ a → Contains index (entry item number) →
    lists2 ≡ with_further lists (record { item = number; prev = prev; done = done }) →
    Returns a (record { items = items; ways = ways_to items lists2; waiting = waiting; indexed = items_of index }) item prev done
returns_again items lists lists2 index waiting a item number prev done kept is c longer =
    subst (λ (f : Finding). Returns f (record { items = items; ways = ways_to items lists2; waiting = waiting; indexed = items_of index }) item prev done) is
    (again number (kept.indexed (entry item number) c)
    (ap (λ (z : WayLists). record { items = items; ways = ways_to items z; waiting = waiting; indexed = items_of index }) longer))
