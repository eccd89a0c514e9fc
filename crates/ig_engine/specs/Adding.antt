-- What a function that adds items makes of a run, and what an event does.
use Rattle.std.specs.Prelude.{◌≡◌, ◌↔◌, ◌⊎◌, ℕ, ◌+◌, ◌<◌, ◌≤◌, List, length, Contains, Bool, true, false, IsTrue, Option, Some, None, slice_get, Result, Ok, Err, MatchResult}
use Rattle.ig_text.specs.Input.{Input}
use Rattle.ig_item.specs.Items.{Item, MoreThan}
use Rattle.ig_item.specs.declared.core_grammar.Nonterminal.{Nonterminal}
use Rattle.ig_item.specs.declared.items.Instance.{Instance}
use Rattle.ig_item.specs.declared.items.Item as stored
use Rattle.ig_item.specs.declared.run_fault.RunFault.{RunFault}
use Rattle.ig_item.specs.declared.run_fault.RunFault.TheVariants as fault
use Rattle.ig_item.specs.declared.ways.Way.{Way}
use Rattle.ig_item.specs.declared.ways.Way.TheVariants.{Node as Tree}
use Rattle.ig_gss.specs.declared.marks.Edge.{Edge}
use Rattle.ig_gss.specs.declared.marks.Pop.{Pop}
use Rattle.ig_run_moves.specs.Finding as numbered
use Rattle.ig_run_moves.specs.Finding.{Pushed, Returns}
use Rattle.ig_queue.specs.declared.ticket.Ticket.{Ticket}
use Rattle.ig_run_laws.specs.Finding.{Finds, IsNewTicket, IsTaken, Records}
use Rattle.ig_run_laws.specs.Rules.{IsReturn}
use Rattle.ig_run_laws.specs.Run.{FollowMore}
use Rattle.ig_run_tables.specs.Extends.{Extends}
use Rattle.ig_engine.specs.Reached.{Reached, AreTables, IsReached, seen}

-- what `may` allows, in that way
abbrev pub By : Way → (Item → Type 0) → Way → Item → Type 0
By way may w x = (w ≡ way) × may x

-- all that `may` allows was recorded, and nothing else; environments were added, the nodes stay
pub record IsAdded (may : Way → Item → Type 0) (budget : ℕ) (a b : Reached) : Type 0 where
  pub envs : Extends a.envs b.envs
  pub nodes : b.nodes ≡ a.nodes
  pub tables : AreTables b
  pub items : Extends a.found.items b.found.items
  pub finds : Finds may (seen a).items (seen b).items
  pub records : Records may (seen a) (seen b)
  pub within : length a.found.items ≤ budget → length b.found.items ≤ budget

-- only items that `may` allows were added, and there are more than the budget
pub record IsOver (may : Way → Item → Type 0) (budget : ℕ) (a b : Reached) : Type 0 where
  pub finds : Finds may (seen a).items (seen b).items
  pub over : budget < length (seen b).items

-- what a function that adds items makes of a run: `Budget` says that there are more than the budget
abbrev pub Adds : (Way → Item → Type 0) → ℕ → Reached → Reached → Result (Unit {0}) RunFault → Type 0
Adds may budget a b (Ok u) = IsAdded may budget a b
Adds may budget a b (Err fault.Budget) = IsOver may budget a b
Adds may budget a b (Err fault.Memory) = Unit {0}

-- x is behind the call of the item of number e, whose callee ended at `end`, where `done` is the complete item taken first
abbrev pub IsReturnBy : List Nonterminal → Input → List Item → ℕ → ℕ → ℕ → Way → Item → Type 0
IsReturnBy core text items e done end way x =
    (caller : Item) × (slice_get items e ≡ Some caller) × (way ≡ Tree e done) × (callee : Instance) ×
    IsReturn core text caller callee end x

-- and so for one of these edges; or of these pops
abbrev pub IsReturnByOne : List Nonterminal → Input → List Item → List Edge → ℕ → ℕ → Way → Item → Type 0
IsReturnByOne core text items edges done end way x =
    (e : Edge) × Contains edges e × IsReturnBy core text items e.item done end way x

abbrev pub IsReturnAtOne : List Nonterminal → Input → List Item → ℕ → List Pop → Way → Item → Type 0
IsReturnAtOne core text items e pops way x =
    (p : Pop) × Contains pops p × IsReturnBy core text items e p.done p.end way x

-- none of the items that `may` allows is found
abbrev pub AreNew : Reached → (Way → Item → Type 0) → Type 0
AreNew s may = (way : Way) (x : Item) → may way x → Contains (seen s).items x → ⊥

-- no item is behind two edges of which one says that its call is the first
abbrev pub AreApart : List Nonterminal → Input → List Item → List Edge → ℕ → ℕ → Type 0
AreApart core text items edges done end =
    (d e : Edge) → Contains edges d → Contains edges e → IsTrue e.is_first → (v w : Way) (x : Item) →
    IsReturnBy core text items d.item done end v x → IsReturnBy core text items e.item done end w x → d.item ≡ e.item

-- what `push` makes of what is found
abbrev pub Pushes : numbered.Finding → numbered.Finding → stored.Item → Way → ℕ → Result (Unit {0}) RunFault → Type 0
Pushes a b item way budget (Ok u) = Pushed a b item way × (length b.items ≤ budget)
Pushes a b item way budget (Err fault.Budget) = Pushed a b item way × (budget < length b.items)
Pushes a b item way budget (Err fault.Memory) = Unit {0}

-- what is made of an item that is behind another one, if there is one
abbrev pub AddsBehind : numbered.Finding → numbered.Finding → Option stored.Item → Way → ℕ → Result (Unit {0}) RunFault → Type 0
AddsBehind a b None way budget result = (b ≡ a) × (result ≡ Ok tt)
AddsBehind a b (Some y) way budget result = Pushes a b y way budget result

-- b is a with a way by a call: by the first one of an alternative to an item that wasn't there, and isn't indexed; by another
-- one as `Returns` says
pub data ComesBehind (a b : numbered.Finding) (item : stored.Item) (prev done : ℕ) (is_first : Bool) : Type 0 where
  at_once : (Contains a.items item → ⊥) → Pushed a b item (Tree prev done) → is_first ≡ true → b.indexed ≡ a.indexed →
      ComesBehind a b item prev done is_first
  looked_up : is_first ≡ false → Returns a b item prev done → ComesBehind a b item prev done is_first

-- what is made of an item behind a call
abbrev pub ReturnsIn : numbered.Finding → numbered.Finding → stored.Item → ℕ → ℕ → Bool → ℕ → Result (Unit {0}) RunFault → Type 0
ReturnsIn a b item prev done is_first budget (Ok u) =
    ComesBehind a b item prev done is_first × (length a.items ≤ budget → length b.items ≤ budget)
ReturnsIn a b item prev done is_first budget (Err fault.Budget) =
    (Contains a.items item → ⊥) × Pushed a b item (Tree prev done) × (budget < length b.items)
ReturnsIn a b item prev done is_first budget (Err fault.Memory) = Unit {0}

-- why an event was refused; want of memory may come at any time
abbrev pub Refuses : List Nonterminal → Input → ℕ → Reached → RunFault → Type 0
Refuses core text budget a fault.Budget =
    FollowMore core text (IsTaken (seen a).items a.found.waiting) budget × MoreThan core text budget
Refuses core text budget a fault.Memory = Unit {0}

-- an event is over: all that follows was found, and waits; nothing but the one ticket was taken
pub record IsOnward (core : List Nonterminal) (text : Input) (budget : ℕ) (a b : Reached) : Type 0 where
  pub reached : IsReached core text budget b
  pub items : Extends (seen a).items (seen b).items
  pub waiting : (t : Ticket) →
      Contains b.found.waiting t ↔ (Contains a.found.waiting t ⊎ IsNewTicket (length (seen a).items) (seen b).items t)
  pub counts : length (seen b).items + length a.found.waiting ≡ length (seen a).items + length b.found.waiting

abbrev pub Events : List Nonterminal → Input → ℕ → Reached → Reached → Result (Unit {0}) RunFault → Type 0
Events core text budget a b result =
    MatchResult result (λ u. IsOnward core text budget a b) (Refuses core text budget a)
