-- What the tables of a run's nodes are seen as, and what keeps them together.
use Rattle.std.specs.Prelude.{◌≡◌, ℕ, ◌≤◌, List, [], ◌∷◌, Contains, Some, length, reverse, slice_get, true, false}
use Rattle.ig_item.specs.declared.items.InstanceKey.{InstanceKey}
use Rattle.ig_gss.specs.declared.marks.Edge.{Edge}
use Rattle.ig_gss.specs.declared.marks.Pop.{Pop}
use Rattle.ig_gss.specs.declared.chains.Cell.{Cell}
use Rattle.ig_gss.specs.declared.tops.Tops.{Tops}
use Rattle.ig_gss.specs.declared.places.Place.{Place}
use Rattle.ig_gss.specs.Chains.{chain}
use Rattle.ig_gss.specs.Nodes.{Node, AreOnce, fresh, ended, pops_at}
use Rattle.ig_gss.specs.Places.{HasAll, IsHighest}

-- the marks of a chain, the earliest first
abbrev pub row : {T : Type 0} → List (Cell T) → ℕ → List T
row cells last = reverse (chain (reverse cells) last)

-- an instance with its tops, as a node
abbrev pub node_by : List (Cell Edge) → List (Cell Pop) → InstanceKey → Tops → Node
node_by edges pops key tops = record { key = key; edges = row edges tops.edge; pops = row pops tops.pop }

abbrev pub nodes_with : (InstanceKey → Tops → Node) → List InstanceKey → List Tops → List Node
nodes_with f [] ts = []
nodes_with f (k ∷ ks) [] = fresh k ∷ nodes_with f ks []
nodes_with f (k ∷ ks) (t ∷ ts) = f k t ∷ nodes_with f ks ts

-- the table has pops of the nodes alone. Where a node is indexed it has all of them, elsewhere the last one is the highest
pub record AreIndexed (nodes : List Node) (tops : List Tops) (ends : List (Place × ℕ)) : Type 0 where
  pub sound : (q : Place) (done : ℕ) → Contains ends (q, done) → Contains (pops_at nodes q.node) (ended q.end done)
  pub all : (k : ℕ) (t : Tops) → slice_get tops k ≡ Some t → t.is_indexed ≡ true → HasAll k (pops_at nodes k) ends
  pub rising : (k : ℕ) (t : Tops) → slice_get tops k ≡ Some t → t.is_indexed ≡ false → IsHighest (reverse (pops_at nodes k))

pub record AreStacks (keys : List InstanceKey) (tops : List Tops) (edges : List (Cell Edge)) (pops : List (Cell Pop)) (ends : List (Place × ℕ)) :
    Type 0 where
  pub long : length tops ≡ length keys
  pub edges_within : (k : ℕ) (t : Tops) → slice_get tops k ≡ Some t → t.edge ≤ length edges
  pub pops_within : (k : ℕ) (t : Tops) → slice_get tops k ≡ Some t → t.pop ≤ length pops
  pub once : AreOnce (nodes_with (node_by edges pops) keys tops)
  pub indexed : AreIndexed (nodes_with (node_by edges pops) keys tops) tops ends
