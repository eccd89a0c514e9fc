-- How the items of a run came about. An item is named by its number, which is its place in the list of the items.
use Rattle.std.specs.Prelude.{◌≡◌, ◌≢◌, ◌↔◌, ℕ, ◌<◌, ◌≤◌, List, length, Contains, Some, slice_get}
use Rattle.ig_text.specs.Input.{Input}
use Rattle.ig_item.specs.Items.{Item, Reachable}
use Rattle.ig_item.specs.Gives as given
use Rattle.ig_item.specs.Gives.{NodeKey, Taken, nothing, tree, Completes, Gives}
use Rattle.ig_item.specs.declared.core_grammar.Nonterminal.{Nonterminal}
use Rattle.ig_item.specs.declared.ways.Way.{Way}
use Rattle.ig_item.specs.declared.ways.Way.TheVariants.{Begin, Pass, Leaf, Node}
use Rattle.ig_item.specs.declared.ways.FurtherWay.{FurtherWay}
use Rattle.ig_item.specs.declared.ways.FurtherEnd.{FurtherEnd}

-- of each item the way in which it was found; the further ways to items; and the further complete items of nodes
pub record WayLists : Type 0 where
  pub firsts : List Way
  pub further : List FurtherWay
  pub ends : List FurtherEnd

-- the item of number k came about in that way: it was found so, or later once more
pub data WayTo (lists : WayLists) (k : ℕ) (way : Way) : Type 0 where
  found : slice_get lists.firsts k ≡ Some way → WayTo lists k way
  again : (more : FurtherWay) → Contains lists.further more → more.item ≡ k → way ≡ Node more.prev more.done →
      WayTo lists k way

module _ (core : List Nonterminal) (known : Item → Type 0) (items : List Item) where
  -- the number of a known item that is complete and belongs to the node of that key
  pub record IsEnd (key : NodeKey) (d : ℕ) : Type 0 where
    pub item : Item
    pub there : slice_get items d ≡ Some item
    pub is_known : known item
    pub completes : Completes core item key

  -- the least of these numbers
  pub record IsFirstEnd (key : NodeKey) (d : ℕ) : Type 0 where
    pub end : IsEnd key d
    pub least : (c : ℕ) → IsEnd key c → d ≤ c

  -- a number of these that is not the least, and the least
  pub record IsFurtherEnd (end : FurtherEnd) : Type 0 where
    pub key : NodeKey
    pub first : IsFirstEnd key end.first
    pub further : IsEnd key end.item
    pub other : end.item ≢ end.first

  -- what the way to an item at that position says: which item is the previous one, and what its next step took. A node is
  -- named by its first complete item
  pub data Says (position : ℕ) : Way → Item → Taken → Type 0 where
    pass : (k : ℕ) (prev : Item) → slice_get items k ≡ Some prev → Says position (Pass k) prev nothing
    leaf : (k : ℕ) (prev : Item) (taken : Taken) → slice_get items k ≡ Some prev →
        taken ≡ given.leaf (record { begin = prev.position; end = position }) → Says position (Leaf k) prev taken
    node : (k d : ℕ) (prev : Item) (key : NodeKey) → slice_get items k ≡ Some prev → IsFirstEnd key d →
        Says position (Node k d) prev (tree key)

  -- each node of a known complete item has a first one; and the further ones are listed beside it
  pub record AreEnds (lists : WayLists) : Type 0 where
    pub first : (x : Item) (key : NodeKey) → known x → Completes core x key → (d : ℕ) × IsFirstEnd key d
    pub exact : (end : FurtherEnd) → Contains lists.ends end ↔ IsFurtherEnd end

module _ (core : List Nonterminal) (text : Input) (known : Item → Type 0) (items : List Item) where
  -- the item can come about in that way: it begins an alternative, or a rule gives it so from known items
  pub data IsWay (x : Item) : Way → Type 0 where
    begin : x.dot ≡ 0 → IsWay x Begin
    comes : (way : Way) (prev : Item) (taken : Taken) → Says core known items x.position way prev taken →
        Gives core text known prev taken x → IsWay x way

  -- the item came about by this step
  pub record CameBy (lists : WayLists) (k : ℕ) (x prev : Item) (taken : Taken) : Type 0 where
    pub way : Way
    pub to : WayTo lists k way
    pub says : Says core known items x.position way prev taken

  -- each item came about in exactly the ways that the rules give from known items
  pub record AreWaysOf (lists : WayLists) : Type 0 where
    pub number : length lists.firsts ≡ length items
    pub sound : (k : ℕ) (x : Item) (way : Way) → slice_get items k ≡ Some x → WayTo lists k way → IsWay x way
    pub complete : (k : ℕ) (x prev : Item) (taken : Taken) → slice_get items k ≡ Some x →
        Gives core text known prev taken x → CameBy lists k x prev taken
    pub there : (more : FurtherWay) → Contains lists.further more → more.item < length items

-- each item came about in exactly the ways that the rules give from reachable items, and the further complete items of each
-- node are listed. So of the items of `S = S S | "a"` on `aaa` the one behind both calls from 0 to 3 has two ways: from
-- that behind the first call at 1, by the node of `S` from 1 to 3; and from that at 2, by the node from 2 to 3. One of them
-- is the first, the other a further one. The items before the first call begin; that behind the letter comes by a leaf
pub record AreWays (core : List Nonterminal) (text : Input) (items : List Item) (lists : WayLists) : Type 0 where
  pub ways : AreWaysOf core text (Reachable core text) items lists
  pub ends : AreEnds core (Reachable core text) items lists
