-- The items that a run has found.
use Rattle.std.specs.Prelude.{◌≡◌, ℕ, ◌+◌, ◌<◌, ◌≤◌, List, ◌++◌, map, length, take, Contains, Result, Option, OnOk, IfErr, [], ◌∷◌, MatchResult}
use Rattle.ig_item.specs.Items.{Item}
use Rattle.ig_item.specs.Tables.{instance_by}
use Rattle.ig_item.specs.WellKinded.{NoneTwice}
use Rattle.ig_item.specs.declared.items.Instance.{Instance}
use Rattle.ig_item.specs.declared.items.Item as stored
use Rattle.ig_item.specs.declared.run_fault.RunFault.{RunFault}
use Rattle.ig_item.specs.declared.run_fault.RunFault.TheVariants.{Budget}
use Rattle.ig_text.specs.Input.{Input}
use Rattle.ig_text.specs.declared.pattern.Pattern.{Pattern}
use Rattle.ig_run_moves.specs.Rules.{IsBehind}
use Rattle.ig_run_moves.specs.Tables.{IsNamed, item_by}
use Rattle.ig_plain.specs.declared.found.Found.{Found}
use Rattle.ig_run_tables.specs.Extends.{Extends}

-- the item that a stored one stands for
abbrev pub means : Found → stored.Item → Item
means s x = item_by s.envs.keys s.keys x

-- the instances
abbrev pub instances_in : Found → List Instance
instances_in s = map (instance_by s.envs.keys) s.keys

-- the items up to the position, and those at later ones
abbrev pub found_in : Found → List Item
found_in s = map (means s) (s.done.items ++ s.here.items)

abbrev pub later_in : Found → List Item
later_in s = map (means s) s.later.items

-- the items that are taken: those before the position, and k of those at it
abbrev pub taken_in : Found → ℕ → List Item
taken_in s k = map (means s) (s.done.items ++ take k s.here.items)

-- the number of items
abbrev pub count : Found → ℕ
count s = length s.done.items + length s.here.items + length s.later.items

abbrev pub Named : Found → stored.Item → Type 0
Named s x = IsNamed s.envs.keys s.keys x

-- nothing stands twice in the tables
pub record AreTables (s : Found) : Type 0 where
  pub environments : NoneTwice s.envs.keys
  pub instances : NoneTwice s.keys

-- no item stands twice, and each stands where its position says
pub record IsStored (p : ℕ) (s : Found) : Type 0 where
  pub tables : AreTables s
  pub before : (x : stored.Item) → Contains s.done.items x → x.position < p
  pub at : (x : stored.Item) → Contains s.here.items x → x.position ≡ p
  pub behind : (x : stored.Item) → Contains s.later.items x → p < x.position
  pub done_once : NoneTwice s.done.items
  pub here_once : NoneTwice s.here.items
  pub later_once : NoneTwice s.later.items

-- b is a with more items at the position, of those that `may` allows; environments were added
pub record Grows (p : ℕ) (may : Item → Type 0) (a b : Found) : Type 0 where
  pub envs : Extends a.envs.keys b.envs.keys
  pub envs_once : NoneTwice a.envs.keys → NoneTwice b.envs.keys
  pub keys : b.keys ≡ a.keys
  pub done : b.done.items ≡ a.done.items
  pub later : b.later.items ≡ a.later.items
  pub here : Extends a.here.items b.here.items
  pub here_once : NoneTwice a.here.items → NoneTwice b.here.items
  pub at : (x : stored.Item) → Contains here.more x → x.position ≡ p
  pub each : (x : stored.Item) → Contains here.more x → may (means b x)

-- b is a with one item at a later position, which stands for x; environments were added
pub record GrowsLater (p : ℕ) (x : Item) (a b : Found) : Type 0 where
  pub envs : Extends a.envs.keys b.envs.keys
  pub envs_once : NoneTwice a.envs.keys → NoneTwice b.envs.keys
  pub keys : b.keys ≡ a.keys
  pub done : b.done.items ≡ a.done.items
  pub here : b.here.items ≡ a.here.items
  pub item : stored.Item
  pub later : b.later.items ≡ a.later.items ++ item ∷ []
  pub behind : p < item.position
  pub is : means b item ≡ x

-- all items that `may` allows are found
abbrev pub Has : (Item → Type 0) → Found → Type 0
Has may s = (x : Item) → may x → Contains (found_in s ++ later_in s) x

-- what a function that adds items makes of those found: only what `may` allows is added, whatever the answer; Ok where all of
-- it is there, within the budget; `Budget` where there are more items than the budget
pub record Adds (p : ℕ) (may : Item → Type 0) (budget : ℕ) (a b : Found) (result : Result (Unit {0}) RunFault) : Type 0 where
  pub grows : Grows p may a b
  pub has : OnOk result (Has may b)
  pub within : OnOk result (count a ≤ budget → count b ≤ budget)
  pub fault : IfErr result (λ f. f ≡ Budget → budget < count b)

-- the same of a function that adds the item x at a later position
abbrev pub AddsLater : ℕ → Item → ℕ → Found → Found → Result (Unit {0}) RunFault → Type 0
AddsLater p x budget a b result =
    MatchResult result (λ u. GrowsLater p x a b × (count b ≤ budget))
    (λ f. f ≡ Budget → GrowsLater p x a b × (budget < count b))

-- the item behind a terminal was added, at the position or at a later one, if there is one
pub data AddsTerminal (text : Input) (what : Pattern) (label : Option (List ℕ)) (excluded : List Pattern) (budget p : ℕ) (it : Item) (a b : Found)
    (result : Result (Unit {0}) RunFault) : Type 0 where
  here : Adds p (IsBehind text what label excluded it) budget a b result → AddsTerminal text what label excluded budget p it a b result
  later : (x : Item) → IsBehind text what label excluded it x → ((y : Item) → IsBehind text what label excluded it y → y ≡ x) →
      AddsLater p x budget a b result → AddsTerminal text what label excluded budget p it a b result
