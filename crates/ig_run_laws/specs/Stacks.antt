-- The stacks of a run: for each instance that was called, who waits for it and where it ended.
use Rattle.std.specs.Prelude.{◌≡◌, ◌↔◌, ◌⊎◌, ℕ, List, [], map, Contains, Some, slice_get}
use Rattle.ig_text.specs.Input.{Input}
use Rattle.ig_item.specs.Gives.{NodeKey}
use Rattle.ig_item.specs.Items.{Item, IsComplete, root_instance}
use Rattle.ig_item.specs.Ways.{IsEnd}
use Rattle.ig_item.specs.WellKinded.{NoneTwice}
use Rattle.ig_item.specs.declared.core_grammar.Nonterminal.{Nonterminal}
use Rattle.ig_item.specs.declared.items.Instance.{Instance}
use Rattle.ig_run_laws.specs.Rules.{IsCaller}

-- a position at which an instance ended, and the number of the complete item of it that was taken first there. Within a
-- run this number names the node of the instance and the position
pub record Pop : Type 0 where
  pub end : ℕ
  pub done : ℕ

abbrev pub pop : ℕ → ℕ → Pop
pop end done = record { end = end; done = done }

-- an instance, the numbers of the items that wait for it, and where it ended
pub record Node : Type 0 where
  pub key : Instance
  pub edges : List ℕ
  pub pops : List Pop

abbrev pub keys_of : List Node → List Instance
keys_of nodes = map (λ node. node.key) nodes

-- a node that was just made
abbrev pub fresh : Instance → Node
fresh key = record { key = key; edges = []; pops = [] }

-- a node of the key has the edge; or the pop
abbrev pub HasEdge : List Node → Instance → ℕ → Type 0
HasEdge nodes i e = (node : Node) × Contains nodes node × (node.key ≡ i) × Contains node.edges e

abbrev pub HasPop : List Node → Instance → Pop → Type 0
HasPop nodes i p = (node : Node) × Contains nodes node × (node.key ≡ i) × Contains node.pops p

-- the node of the instance and the position goes by that number
abbrev pub IsName : List Node → NodeKey → ℕ → Type 0
IsName nodes key d = HasPop nodes key.instance (pop key.end d)

-- a known item calls the instance
pub record IsCalled (core : List Nonterminal) (text : Input) (known : Item → Type 0) (i : Instance) : Type 0 where
  pub item : Item
  pub is_known : known item
  pub calls : IsCaller core text item i

-- the found item of that number is known, and calls the instance
pub record Waits (core : List Nonterminal) (text : Input) (known : Item → Type 0) (found : List Item) (i : Instance) (k : ℕ) :
    Type 0 where
  pub item : Item
  pub there : slice_get found k ≡ Some item
  pub is_known : known item
  pub calls : IsCaller core text item i

-- a known item is a complete one of the instance at p
pub record HasEnd (core : List Nonterminal) (known : Item → Type 0) (i : Instance) (p : ℕ) : Type 0 where
  pub item : Item
  pub is_known : known item
  pub of : item.instance ≡ i
  pub complete : IsComplete core item
  pub ends : item.position ≡ p

-- there is a node for the root at 0 and for each instance that a known item calls, and no other; its edges are the known
-- items that call it, its pops the positions of the known complete items of it, each with the number of one of these
pub record AreStacks (core : List Nonterminal) (text : Input) (known : Item → Type 0) (found : List Item)
    (nodes : List Node) : Type 0 where
  pub once : NoneTwice (keys_of nodes)
  pub keys : (i : Instance) → Contains (keys_of nodes) i ↔ ((i ≡ root_instance) ⊎ IsCalled core text known i)
  pub edges : (node : Node) → Contains nodes node → (k : ℕ) → Contains node.edges k ↔ Waits core text known found node.key k
  pub dones : (node : Node) → Contains nodes node → (p : Pop) → Contains node.pops p →
      IsEnd core known found (record { instance = node.key; end = p.end }) p.done
  pub pops : (node : Node) → Contains nodes node → (p : ℕ) → HasEnd core known node.key p →
      (d : ℕ) × Contains node.pops (pop p d)
  pub ends_once : (node : Node) → Contains nodes node → (p q : Pop) → Contains node.pops p → Contains node.pops q →
      p.end ≡ q.end → p ≡ q

-- an item of each of the found ones' instances has a node
abbrev pub HaveNodes : List Item → List Node → Type 0
HaveNodes found nodes = (x : Item) → Contains found x → Contains (keys_of nodes) x.instance

-- the item of number k is a complete one of the instance, where the pop says
pub record IsEndOf (core : List Nonterminal) (it : Item) (k : ℕ) (i : Instance) (p : Pop) : Type 0 where
  pub of : it.instance ≡ i
  pub complete : IsComplete core it
  pub ends : p.end ≡ it.position
  pub done : p.done ≡ k

-- the instance of the item ended nowhere at its position yet
abbrev pub IsFirstThere : List Node → Item → Type 0
IsFirstThere nodes it = (d : ℕ) → HasPop nodes it.instance (pop it.position d) → ⊥

-- what becomes of the nodes when the item of number k is taken: the instance that it calls has a node, in which it waits; and
-- where it is complete, its instance ended at its position
pub record Meets (core : List Nonterminal) (text : Input) (it : Item) (k : ℕ) (nodes after : List Node) : Type 0 where
  pub once : NoneTwice (keys_of after)
  pub keys : (i : Instance) → Contains (keys_of after) i ↔ (Contains (keys_of nodes) i ⊎ IsCaller core text it i)
  pub edges : (node : Node) → Contains after node → (e : ℕ) →
      Contains node.edges e ↔ (HasEdge nodes node.key e ⊎ (IsCaller core text it node.key × (e ≡ k)))
  pub pops : (node : Node) → Contains after node → (p : Pop) →
      Contains node.pops p ↔ (HasPop nodes node.key p ⊎ IsEndOf core it k node.key p)
