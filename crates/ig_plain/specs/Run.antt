-- What a run in rising positions keeps.
use Rattle.std.specs.Prelude.{◌≡◌, ◌↔◌, ◌⊎◌, ℕ, zero, suc, ◌<◌, ◌≤◌, List, [], ◌∷◌, ◌++◌, length, Contains, Some, slice_get, Result, MatchResult}
use Rattle.ig_text.specs.Input.{Input}
use Rattle.ig_item.specs.Core.{IsAlternative}
use Rattle.ig_item.specs.Items.{Item, Follows, Reachable, MoreThan, IsComplete, first}
use Rattle.ig_item.specs.declared.core_grammar.Nonterminal.{Nonterminal}
use Rattle.ig_item.specs.declared.core_grammar.CoreAlt.{CoreAlt}
use Rattle.ig_item.specs.declared.items.Instance.{Instance}
use Rattle.ig_item.specs.declared.items.InstanceKey.{InstanceKey}
use Rattle.ig_item.specs.Tables.{instance_by}
use Rattle.ig_run_tables.specs.Extends.{Extends}
use Rattle.ig_item.specs.declared.items.Item as stored
use Rattle.ig_item.specs.declared.run_fault.RunFault.{RunFault}
use Rattle.ig_item.specs.declared.run_fault.RunFault.TheVariants as fault
use Rattle.ig_plain.specs.declared.found.Found.{Found}
use Rattle.ig_run_moves.specs.declared.waiting.Waiting.{Waiting}
use Rattle.ig_run_moves.specs.declared.waiting.Called.{Called}
use Rattle.ig_run_moves.specs.declared.waiting.Caller.{Caller}
use Rattle.ig_plain.specs.Found.{means, Named, instances_in, found_in, later_in, taken_in, count, IsStored}
use Rattle.ig_run_moves.specs.Rules.{ReadsTo}
use Rattle.ig_run_laws.specs.Rules.{IsCaller, IsFirstOf}
use Rattle.ig_plain.specs.Rules.{StandsAtCall, IsReturn}

-- the callers in a chain that begins at a place + 1: from each cell on to one behind it
pub data Chains (cells : List Caller) : ℕ → List stored.Item → Type 0 where
  none : Chains cells zero []
  more : (k : ℕ) (cell : Caller) (xs : List stored.Item) → slice_get cells k ≡ Some cell → (cell.next ≡ 0) ⊎ (suc k < cell.next) →
      Chains cells cell.next xs → Chains cells (suc k) (cell.item ∷ xs)

-- the chain that begins at the first place + 1 ends at the other one
pub data ChainEnds (cells : List Caller) : ℕ → ℕ → Type 0 where
  nowhere : ChainEnds cells zero zero
  here : (k : ℕ) (cell : Caller) → slice_get cells k ≡ Some cell → cell.next ≡ 0 → ChainEnds cells (suc k) (suc k)
  onward : (k last : ℕ) (cell : Caller) → slice_get cells k ≡ Some cell → suc k < cell.next → ChainEnds cells cell.next last →
      ChainEnds cells (suc k) last

-- the items of the chain that begins there stand before calls
pub record IsChainOf (core : List Nonterminal) (cells : List Caller) (head : ℕ) (s : Found) : Type 0 where
  pub chain : List stored.Item
  pub chained : Chains cells head chain
  pub named : (y : stored.Item) → Contains chain y → Named s y
  pub calls : (y : stored.Item) → Contains chain y → StandsAtCall core (means s y)

-- x is the item after the call before which an item of the chain stands
pub record IsReturnToOne (core : List Nonterminal) (text : Input) (cells : List Caller) (head end : ℕ) (s : Found) (x : Item) :
    Type 0 where
  pub chain : List stored.Item
  pub chained : Chains cells head chain
  pub caller : stored.Item
  pub among : Contains chain caller
  pub returns : IsReturn core text (means s caller) end x

-- the chain between these two has exactly the taken items that call the instance
pub record HasCallers (core : List Nonterminal) (text : Input) (s : Found) (taken : List Item) (cells : List Caller) (head last : ℕ)
    (callee : Instance) : Type 0 where
  pub chain : List stored.Item
  pub chained : Chains cells head chain
  pub ended : ChainEnds cells head last
  pub named : (y : stored.Item) → Contains chain y → Named s y
  pub callers : (y : stored.Item) → Contains chain y → Contains taken (means s y) × IsCaller core text (means s y) callee
  pub all : (x : Item) → Contains taken x → IsCaller core text x callee → (y : stored.Item) × Contains chain y × (means s y ≡ x)

-- one of the items is a complete one of the instance at p
pub record HasEnd (core : List Nonterminal) (taken : List Item) (callee : Instance) (p : ℕ) : Type 0 where
  pub item : Item
  pub among : Contains taken item
  pub of : item.instance ≡ callee
  pub complete : IsComplete core item
  pub ends : item.position ≡ p

-- for each instance its callers among the taken items, and whether one of those is a complete item of it at p
pub record IsWaiting (core : List Nonterminal) (text : Input) (p : ℕ) (s : Found) (taken : List Item) (w : Waiting) : Type 0 where
  pub lengths : length w.called.items ≡ length (instances_in s)
  pub callers : (i : ℕ) (callee : Instance) (called : Called) → slice_get (instances_in s) i ≡ Some callee →
      slice_get w.called.items i ≡ Some called → HasCallers core text s taken w.callers.items called.first called.last callee
  pub ends : (i : ℕ) (callee : Instance) (called : Called) → slice_get (instances_in s) i ≡ Some callee →
      slice_get w.called.items i ≡ Some called → (called.last_end ≡ Some p) ↔ HasEnd core taken callee p
  pub known : (x : Item) (callee : Instance) → Contains taken x → IsCaller core text x callee → Contains (instances_in s) callee
  pub before : (i : ℕ) (called : Called) (e : ℕ) → slice_get w.called.items i ≡ Some called → called.last_end ≡ Some e → e ≤ p

-- k of the items at p are taken: all are reachable, and all that follows from those taken is found
pub record IsTaking (core : List Nonterminal) (text : Input) (budget p k : ℕ) (s : Found) : Type 0 where
  pub stored : IsStored p s
  pub reachable : (x : Item) → Contains (found_in s ++ later_in s) x → Reachable core text x
  pub closed : (x : Item) → Follows core text (Contains (taken_in s k)) x → Contains (found_in s ++ later_in s) x
  -- each of the later items came from a taken one, over a terminal
  pub came : (x : Item) → Contains (later_in s) x →
      (it : Item) × Contains (taken_in s k) it × ReadsTo core text it x
  pub few : k ≤ length s.here.items
  pub within : count s ≤ budget

-- the same, with the first items of each instance, and what waits for it
pub record IsRun (core : List Nonterminal) (text : Input) (budget p k : ℕ) (s : Found) (w : Waiting) : Type 0 where
  pub taking : IsTaking core text budget p k s
  pub firsts : (callee : Instance) → Contains (instances_in s) callee → (a : ℕ) (nonterminal : Nonterminal)
      (alternative : CoreAlt) → IsAlternative core callee.nonterminal a nonterminal alternative →
      Contains (found_in s ++ later_in s) (first callee a)
  pub waiting : IsWaiting core text p s (taken_in s k) w

-- why no items were given; want of memory may come at any time
abbrev pub Refuses : List Nonterminal → Input → ℕ → RunFault → Type 0
Refuses core text budget fault.Budget = MoreThan core text budget
Refuses core text budget fault.Memory = Unit {0}

-- the item is the next one that is taken
pub record Taking (core : List Nonterminal) (text : Input) (budget : ℕ) (item : stored.Item) (s : Found) (w : Waiting) : Type 0 where
  pub number : ℕ
  pub run : IsRun core text budget item.position number s w
  pub at : slice_get s.here.items number ≡ Some item

-- k items were taken, and then one more; or it was refused
abbrev pub IsTaken : List Nonterminal → Input → ℕ → ℕ → ℕ → Found → Waiting → Result (Unit {0}) RunFault → Type 0
IsTaken core text budget p k t w result =
    MatchResult result (λ u. IsRun core text budget p (suc k) t w) (Refuses core text budget)

-- the item, which is one of those at the position, was taken or refused
abbrev pub Takes : List Nonterminal → Input → ℕ → stored.Item → Found → Found → Waiting → Result (Unit {0}) RunFault → Type 0
Takes core text budget item s t w result =
    (k : ℕ) → slice_get s.here.items k ≡ Some item → IsTaken core text budget item.position k t w result

-- the instance of that key has number i now, with its first items; k items are taken as before
pub record IsEntered (core : List Nonterminal) (text : Input) (budget k : ℕ) (key : InstanceKey) (s t : Found) (v : Waiting) (i : ℕ) :
    Type 0 where
  pub run : IsRun core text budget key.start k t v
  pub there : slice_get t.keys i ≡ Some key
  pub named : (x : stored.Item) → Named s x → Named t x
  pub same : (x : stored.Item) → Named s x → means t x ≡ means s x
  pub envs : Extends s.envs.keys t.envs.keys
  pub done : t.done.items ≡ s.done.items
  pub here : Extends s.here.items t.here.items
  pub taken : taken_in t k ≡ taken_in s k

abbrev pub EntersInstance : List Nonterminal → ℕ → InstanceKey → Found → Found → Waiting → Waiting → Result ℕ RunFault → Type 0
EntersInstance core budget key s t w v result =
    (text : Input) (k : ℕ) → IsRun core text budget key.start k s w →
    ((x : Item) → IsFirstOf core (instance_by s.envs.keys key) x → Reachable core text x) →
    MatchResult result (IsEntered core text budget k key s t v) (Refuses core text budget)
