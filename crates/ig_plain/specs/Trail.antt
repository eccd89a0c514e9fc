-- How the items that a run has found came about.
use Rattle.std.specs.Prelude.{◌≡◌, ◌⊎◌, ℕ, suc, ◌+◌, ◌<◌, List, [], ◌∷◌, ◌++◌, map, length, Contains, Option, Some, slice_get, IsTrue, Result, OnOk}
use Rattle.ig_text.specs.Input.{Input}
use Rattle.ig_text.specs.declared.pattern.Pattern.{Pattern}
use Rattle.ig_item.specs.Items.{Item}
use Rattle.ig_item.specs.Gives.{Taken, Gives}
use Rattle.ig_item.specs.Ways.{WayLists, WayTo, Says, IsWay, IsFirstEnd, AreEnds}
use Rattle.ig_item.specs.declared.core_grammar.Nonterminal.{Nonterminal}
use Rattle.ig_item.specs.declared.items.Instance.{Instance}
use Rattle.ig_item.specs.declared.items.InstanceKey.{InstanceKey}
use Rattle.ig_item.specs.declared.items.Item as stored
use Rattle.ig_item.specs.declared.ways.Way.{Way}
use Rattle.ig_item.specs.declared.ways.Way.TheVariants.{Begin, Pass, Leaf, Node}
use Rattle.ig_item.specs.declared.ways.FurtherWay.{FurtherWay}
use Rattle.ig_item.specs.declared.run_fault.RunFault.{RunFault}
use Rattle.ig_run_tables.specs.Extends.{Extends}
use Rattle.ig_run_tables.specs.Returned.{Entry, entry}
use Rattle.ig_run_moves.specs.Rules.{IsBehind}
use Rattle.ig_plain.specs.Rules.{StandsAtBareCall}
use Rattle.ig_plain.specs.Found.{means, found_in, later_in, taken_in, instances_in}
use Rattle.ig_plain.specs.declared.found.Found.{Found}
use Rattle.ig_plain.specs.declared.trail.Trail.{Trail}
use Rattle.ig_run_moves.specs.declared.waiting.Waiting.{Waiting}
use Rattle.ig_run_moves.specs.declared.waiting.Called.{Called}
use Rattle.ig_run_moves.specs.declared.waiting.Caller.{Caller}
use Rattle.ig_plain.specs.Run.{IsReturnToOne, IsRun}

-- x and n stand at one place of the two lists
abbrev pub Pairs : {X Y : Type 0} → List X → List Y → X → Y → Type 0
Pairs xs ns x n = (k : ℕ) × (slice_get xs k ≡ Some x) × (slice_get ns k ≡ Some n)

-- it is recorded that x came about in that way: x is one of the items up to the position, or of the later ones
pub data IsRecorded (s : Found) (t : Trail) (way : Way) (x : Item) : Type 0 where
  here : (k : ℕ) → slice_get (found_in s) k ≡ Some x → WayTo t.ways k way → IsRecorded s t way x
  later : (n : ℕ) → Pairs (later_in s) t.later.items x n → way ≡ Leaf n → IsRecorded s t way x

-- none of what `may` allows is found
abbrev pub Unfound : Found → (Item → Type 0) → Type 0
Unfound s may = (x : Item) → may x → Contains (found_in s) x → ⊥

-- what `may` allows, in that way
abbrev pub By : Way → (Item → Type 0) → Way → Item → Type 0
By way may w x = (w ≡ way) × may x

-- an item that came about in that way can't come about once more: no call is before it
abbrev pub ComesOnce : Way → Type 0
ComesOnce Begin = Unit {0}
ComesOnce (Pass prev) = Unit {0}
ComesOnce (Leaf prev) = Unit {0}
ComesOnce (Node prev done) = ⊥

-- the item of that number was found behind a call
abbrev pub IsNodeAt : List Way → ℕ → Type 0
IsNodeAt firsts k = (prev : ℕ) × (done : ℕ) × (slice_get firsts k ≡ Some (Node prev done))

-- those items that `may` allows and that are found were found behind calls
abbrev pub ComeByNodes : Found → Trail → (Item → Type 0) → Type 0
ComeByNodes s t may = (x : Item) → may x → (k : ℕ) → slice_get (found_in s) k ≡ Some x → IsNodeAt t.ways.firsts k

-- `returned` has the items at the position, `here`, that were found behind calls, with their numbers
pub record Indexes (done here : List stored.Item) (firsts : List Way) (returned : List Entry) : Type 0 where
  pub numbered : length firsts ≡ length (done ++ here)
  pub sound : (e : Entry) → Contains returned e → slice_get (done ++ here) e.number ≡ Some e.item
  pub complete : (k : ℕ) (x : stored.Item) → slice_get here k ≡ Some x → IsNodeAt firsts (length done + k) →
      Contains returned (entry x (length done + k))

abbrev pub IsIndexed : Found → Trail → Type 0
IsIndexed s t = Indexes s.done.items s.here.items t.ways.firsts t.returned

-- b is a with one item more at the position, which came about in that way
pub record Pushes (x : stored.Item) (way : Way) (a b : Found) (t u : Trail) : Type 0 where
  pub envs : b.envs.keys ≡ a.envs.keys
  pub keys : b.keys ≡ a.keys
  pub done : b.done.items ≡ a.done.items
  pub here : b.here.items ≡ a.here.items ++ x ∷ []
  pub behind : b.later.items ≡ a.later.items
  pub ways : u.ways ≡ record t.ways { firsts = t.ways.firsts ++ way ∷ [] }
  pub later : u.later.items ≡ t.later.items
  pub returned : u.returned ≡ t.returned

-- more items were found at the position: of all of them each way is recorded that `may` allows, and no other
pub record Records (may : Way → Item → Type 0) (a b : Found) (t u : Trail) : Type 0 where
  pub found : Extends (found_in a) (found_in b)
  pub behind : later_in b ≡ later_in a
  pub firsts : Extends t.ways.firsts u.ways.firsts
  pub further : Extends t.ways.further u.ways.further
  pub ends : u.ways.ends ≡ t.ways.ends
  pub later : u.later.items ≡ t.later.items
  pub numbered : length t.ways.firsts ≡ length (found_in a) → length u.ways.firsts ≡ length (found_in b)
  pub there : (more : FurtherWay) → Contains further.more more → more.item < length (found_in b)
  pub each : length t.ways.firsts ≡ length (found_in a) → (k : ℕ) (way : Way) (x : Item) →
      slice_get (found_in b) k ≡ Some x → WayTo u.ways k way → WayTo t.ways k way ⊎ may way x
  pub has : length t.ways.firsts ≡ length (found_in a) → (way : Way) (x : Item) → may way x → IsRecorded b u way x
  pub indexed : IsIndexed a t → IsIndexed b u

-- x was found at a later position, and came from the item of number n
pub record RecordsLater (n : ℕ) (x : Item) (a b : Found) (t u : Trail) : Type 0 where
  pub found : found_in b ≡ found_in a
  pub behind : later_in b ≡ later_in a ++ x ∷ []
  pub ways : u.ways ≡ t.ways
  pub later : u.later.items ≡ t.later.items ++ n ∷ []
  pub indexed : IsIndexed a t → IsIndexed b u

-- the way to the item behind a terminal was recorded, if there is one
pub data RecordsTerminal (text : Input) (what : Pattern) (label : Option (List ℕ)) (excluded : List Pattern) (n : ℕ) (it : Item)
    (a b : Found) (t u : Trail) : Type 0 where
  here : Records (By (Leaf n) (IsBehind text what label excluded it)) a b t u →
      RecordsTerminal text what label excluded n it a b t u
  later : (x : Item) → IsBehind text what label excluded it x → ((y : Item) → IsBehind text what label excluded it y → y ≡ x) →
      RecordsLater n x a b t u → RecordsTerminal text what label excluded n it a b t u

-- the caller has the number of its item, and is called bare only where its call has neither a label nor an excluded pattern
pub record IsKnown (core : List Nonterminal) (s : Found) (cell : Caller) : Type 0 where
  pub numbered : slice_get (s.done.items ++ s.here.items) cell.number ≡ Some cell.item
  pub bare : IsTrue cell.is_bare → StandsAtBareCall core (means s cell.item)

abbrev pub AreKnown : List Nonterminal → Found → List Caller → Type 0
AreKnown core s cells = (cell : Caller) → Contains cells cell → IsKnown core s cell

-- x is the item after the call before which an item of the chain stands, and came about by that
pub record IsReturnBy (core : List Nonterminal) (text : Input) (cells : List Caller) (head done end : ℕ) (s : Found)
    (way : Way) (x : Item) : Type 0 where
  pub returns : IsReturnToOne core text cells head end s x
  pub number : ℕ
  pub numbered : slice_get (s.done.items ++ s.here.items) number ≡ Some returns.caller
  pub is : way ≡ Node number done

-- it is recorded that x came about by that step from taken items
pub record IsCame (core : List Nonterminal) (s : Found) (t : Trail) (taken : List Item) (x prev : Item) (what : Taken) : Type 0 where
  pub way : Way
  pub recorded : IsRecorded s t way x
  pub says : Says core (Contains taken) (found_in s) x.position way prev what

-- each item that was found came about in exactly the ways that the rules give from those taken
pub record FollowTrail (core : List Nonterminal) (text : Input) (s : Found) (t : Trail) (taken : List Item) : Type 0 where
  pub numbered : length t.ways.firsts ≡ length (found_in s)
  pub later_numbered : length t.later.items ≡ length (later_in s)
  pub there : (more : FurtherWay) → Contains t.ways.further more → more.item < length (found_in s)
  pub sound : (way : Way) (x : Item) → IsRecorded s t way x → IsWay core text (Contains taken) (found_in s) x way
  pub complete : (x prev : Item) (what : Taken) → Gives core text (Contains taken) prev what x → IsCame core s t taken x prev what
  pub ends : AreEnds core (Contains taken) (found_in s) t.ways

-- k of the items at p are taken, and the ways to all that were found are recorded; callers and ends have their numbers, and
-- those behind calls are known
pub record HasTrail (core : List Nonterminal) (text : Input) (p k : ℕ) (s : Found) (w : Waiting) (t : Trail) : Type 0 where
  pub ways : FollowTrail core text s t (taken_in s k)
  pub callers : AreKnown core s w.callers.items
  pub ends : (i : ℕ) (callee : Instance) (called : Called) → slice_get (instances_in s) i ≡ Some callee →
      slice_get w.called.items i ≡ Some called → called.last_end ≡ Some p →
      IsFirstEnd core (Contains (taken_in s k)) (found_in s) (record { instance = callee; end = p }) called.last_done
  pub indexed : IsIndexed s t

-- the item, which has that number, is the next one that is taken
pub record IsNext (core : List Nonterminal) (text : Input) (item : stored.Item) (number : ℕ) (s : Found) (w : Waiting) (t : Trail) :
    Type 0 where
  pub place : ℕ
  pub at : slice_get s.here.items place ≡ Some item
  pub numbered : number ≡ length s.done.items + place
  pub trail : HasTrail core text item.position place s w t

-- the item, which is one of those at the position, was taken
abbrev pub TakesOn : List Nonterminal → Input → stored.Item → Found → Found → Waiting → Trail → Result (Unit {0}) RunFault → Type 0
TakesOn core text item s t w u result =
    (k : ℕ) → slice_get s.here.items k ≡ Some item → OnOk result (HasTrail core text item.position (suc k) t w u)

-- the instance of that key was entered, and the ways to its first items are recorded; k items are taken as before
abbrev pub EntersOn : List Nonterminal → ℕ → InstanceKey → Found → Found → Waiting → Waiting → Trail → Trail → Result ℕ RunFault → Type 0
EntersOn core budget key s t w v trail u result =
    (text : Input) (k : ℕ) → IsRun core text budget key.start k s w → HasTrail core text key.start k s w trail →
    OnOk result (HasTrail core text key.start k t v u)

-- the later items, each with the number of the item from which it came, were parted into those at the position, which
-- were added at the end, and the rest
pub record PartsTrail (later : List stored.Item) (prevs : List ℕ) (here after : List stored.Item) (v w : WayLists)
    (rest : List stored.Item) (rest_prevs : List ℕ) : Type 0 where
  pub more : List stored.Item
  pub numbers : List ℕ
  pub here_is : after ≡ here ++ more
  pub firsts : w.firsts ≡ v.firsts ++ map Leaf numbers
  pub further : w.further ≡ v.further
  pub ends : w.ends ≡ v.ends
  pub numbered : length numbers ≡ length more
  pub rest_numbered : length rest_prevs ≡ length rest
  pub from : (x : stored.Item) (n : ℕ) → Pairs more numbers x n → Pairs later prevs x n
  pub rest_from : (x : stored.Item) (n : ℕ) → Pairs rest rest_prevs x n → Pairs later prevs x n
  pub parted : (x : stored.Item) (n : ℕ) → Pairs later prevs x n → Pairs more numbers x n ⊎ Pairs rest rest_prevs x n

-- the later items at the position follow those that are taken, each with its way
abbrev pub ArrivesOn : Found → Found → Trail → Trail → Type 0
ArrivesOn a b t u = PartsTrail a.later.items t.later.items [] b.here.items t.ways u.ways b.later.items u.later.items

-- nothing is recorded and nobody waits
pub record IsUntrodden (w : Waiting) (t : Trail) : Type 0 where
  pub ways : t.ways ≡ record { firsts = []; further = []; ends = [] }
  pub later : t.later.items ≡ []
  pub returned : t.returned ≡ []
  pub callers : w.callers.items ≡ []
