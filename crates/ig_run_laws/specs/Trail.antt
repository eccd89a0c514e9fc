-- How the items of a run came about, while each node goes by the number in its pop.
use Rattle.std.specs.Prelude.{◌≡◌, ◌≢◌, ◌↔◌, ℕ, ◌<◌, List, length, Contains, Some, slice_get}
use Rattle.ig_text.specs.Input.{Input}
use Rattle.ig_item.specs.Items.{Item}
use Rattle.ig_item.specs.Gives as given
use Rattle.ig_item.specs.Gives.{NodeKey, Taken, Gives, nothing, tree}
use Rattle.ig_item.specs.Ways.{WayLists, WayTo, IsEnd}
use Rattle.ig_item.specs.declared.core_grammar.Nonterminal.{Nonterminal}
use Rattle.ig_item.specs.declared.ways.Way.{Way}
use Rattle.ig_item.specs.declared.ways.Way.TheVariants.{Begin, Pass, Leaf, Node as Tree}
use Rattle.ig_item.specs.declared.ways.FurtherWay.{FurtherWay}
use Rattle.ig_item.specs.declared.ways.FurtherEnd.{FurtherEnd}
use Rattle.ig_run_laws.specs.Stacks.{Node, IsName}

-- what the way to an item at that position says
pub data SaysNamed (items : List Item) (nodes : List Node) (position : ℕ) : Way → Item → Taken → Type 0 where
  pass : (k : ℕ) (prev : Item) → slice_get items k ≡ Some prev → SaysNamed items nodes position (Pass k) prev nothing
  leaf : (k : ℕ) (prev : Item) (taken : Taken) → slice_get items k ≡ Some prev →
      taken ≡ given.leaf (record { begin = prev.position; end = position }) → SaysNamed items nodes position (Leaf k) prev taken
  node : (k d : ℕ) (prev : Item) (key : NodeKey) → slice_get items k ≡ Some prev → IsName nodes key d →
      SaysNamed items nodes position (Tree k d) prev (tree key)

-- the item can come about in that way: it begins an alternative, or a rule gives it so from known items
pub data IsWayNamed (core : List Nonterminal) (text : Input) (known : Item → Type 0) (items : List Item) (nodes : List Node)
    (x : Item) : Way → Type 0 where
  begin : x.dot ≡ 0 → IsWayNamed core text known items nodes x Begin
  comes : (way : Way) (prev : Item) (taken : Taken) → SaysNamed items nodes x.position way prev taken →
      Gives core text known prev taken x → IsWayNamed core text known items nodes x way

-- the item came about by this step
pub record CameNamed (items : List Item) (nodes : List Node) (lists : WayLists) (k : ℕ) (x prev : Item) (taken : Taken) :
    Type 0 where
  pub way : Way
  pub to : WayTo lists k way
  pub says : SaysNamed items nodes x.position way prev taken

-- a complete item of a node that goes by the number of another one
pub record IsFurtherNamed (core : List Nonterminal) (known : Item → Type 0) (items : List Item) (nodes : List Node)
    (end : FurtherEnd) : Type 0 where
  pub key : NodeKey
  pub name : IsName nodes key end.first
  pub further : IsEnd core known items key end.item
  pub other : end.item ≢ end.first

-- each item came about in exactly the ways that the rules give from known items, and the further complete items are listed
pub record HasTrail (core : List Nonterminal) (text : Input) (known : Item → Type 0) (items : List Item) (nodes : List Node)
    (lists : WayLists) : Type 0 where
  pub number : length lists.firsts ≡ length items
  pub there : (more : FurtherWay) → Contains lists.further more → more.item < length items
  pub sound : (k : ℕ) (x : Item) (way : Way) → slice_get items k ≡ Some x → WayTo lists k way →
      IsWayNamed core text known items nodes x way
  pub complete : (k : ℕ) (x prev : Item) (taken : Taken) → slice_get items k ≡ Some x → Gives core text known prev taken x →
      CameNamed items nodes lists k x prev taken
  pub ends : (end : FurtherEnd) → Contains lists.ends end ↔ IsFurtherNamed core known items nodes end
