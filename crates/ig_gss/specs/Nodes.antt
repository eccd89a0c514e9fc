-- The nodes of a run, and what one call makes of them.
use Rattle.std.specs.Prelude.{◌≡◌, ℕ, zero, suc, List, [], ◌∷◌, ◌++◌, Contains, Some, length, map, slice_get}
use Rattle.ig_item.specs.WellKinded.{NoneTwice}
use Rattle.ig_item.specs.declared.items.InstanceKey.{InstanceKey}
use Rattle.ig_gss.specs.declared.marks.Edge.{Edge}
use Rattle.ig_gss.specs.declared.marks.Pop.{Pop}

-- a node: the instance for which it stands, who waits for it, and where it ended, the earliest first
pub record Node : Type 0 where
  pub key : InstanceKey
  pub edges : List Edge
  pub pops : List Pop

-- a node that was just made
abbrev pub fresh : InstanceKey → Node
fresh key = record { key = key; edges = []; pops = [] }

abbrev pub ended : ℕ → ℕ → Pop
ended end done = record { end = end; done = done }

-- the instances, by the numbers of their nodes
abbrev pub keys_of : List Node → List InstanceKey
keys_of nodes = map (λ n. n.key) nodes

-- the edges of the node of that number, and its pops
abbrev pub edges_at : List Node → ℕ → List Edge
edges_at [] k = []
edges_at (n ∷ ns) zero = n.edges
edges_at (n ∷ ns) (suc k) = edges_at ns k

abbrev pub pops_at : List Node → ℕ → List Pop
pops_at [] k = []
pops_at (n ∷ ns) zero = n.pops
pops_at (n ∷ ns) (suc k) = pops_at ns k

-- which items wait for it, and where it ended
abbrev pub items_at : List Node → ℕ → List ℕ
items_at nodes k = map (λ e. e.item) (edges_at nodes k)

abbrev pub ends_at : List Node → ℕ → List ℕ
ends_at nodes k = map (λ p. p.end) (pops_at nodes k)

-- the nodes, where that of the number has one more edge, or one more pop
abbrev pub with_edge : List Node → ℕ → Edge → List Node
with_edge [] k e = []
with_edge (n ∷ ns) zero e = record n { edges = n.edges ++ e ∷ [] } ∷ ns
with_edge (n ∷ ns) (suc k) e = n ∷ with_edge ns k e

abbrev pub with_pop : List Node → ℕ → Pop → List Node
with_pop [] k p = []
with_pop (n ∷ ns) zero p = record n { pops = n.pops ++ p ∷ [] } ∷ ns
with_pop (n ∷ ns) (suc k) p = n ∷ with_pop ns k p

-- a node of the instance was there, or is new; either way it has that number
abbrev pub FindsNode : List Node → List Node → InstanceKey → ℕ → Type 0
FindsNode old new key k = (new ≡ old) × ((n : Node) × (slice_get old k ≡ Some n) × (n.key ≡ key))

abbrev pub MakesNode : List Node → List Node → InstanceKey → ℕ → Type 0
MakesNode old new key k = (new ≡ old ++ fresh key ∷ []) × (k ≡ length old) × (Contains (keys_of old) key → ⊥)

-- no instance has two nodes, no item waits twice for a node, and no node ended twice at a position
pub record AreOnce (nodes : List Node) : Type 0 where
  pub keys : NoneTwice (keys_of nodes)
  pub items : (k : ℕ) → NoneTwice (items_at nodes k)
  pub ends : (k : ℕ) → NoneTwice (ends_at nodes k)
