-- The law of all calls.
use Rattle.std.specs.Prelude.{◌≡◌, ◌⊎◌, ◌↔◌, ℕ, ◌<◌, List, [], ◌++◌, Contains, length, map, reverse}
use Rattle.ig_item.specs.WellKinded.{NoneTwice}
use Rattle.ig_item.specs.declared.items.InstanceKey.{InstanceKey}
use Rattle.ig_gss.specs.declared.marks.Edge.{Edge}
use Rattle.ig_gss.specs.declared.marks.Pop.{Pop}
use Rattle.ig_gss.specs.Nodes.{Node, edges_at, pops_at, items_at, ends_at, with_edge, with_pop, FindsNode, MakesNode}

-- a pair that was met, and the number of the node at which it was
pub record Met : Type 0 where
  pub node : ℕ
  pub edge : Edge
  pub pop : Pop

-- a new edge meets each pop of its node, and a new pop each edge, the latest first
abbrev pub met_by_edge : List Node → ℕ → Edge → List Met
met_by_edge nodes k e = map (λ p. record { node = k; edge = e; pop = p }) (reverse (pops_at nodes k))

abbrev pub met_by_pop : List Node → ℕ → Pop → List Met
met_by_pop nodes k p = map (λ e. record { node = k; edge = e; pop = p }) (reverse (edges_at nodes k))

-- what a list of calls, from no nodes on, makes of them, and the pairs that met, the earliest first
pub data Runs : List Node → List Met → Type 0 where
  begins : Runs [] []
  asks_node : (old new : List Node) (met : List Met) (key : InstanceKey) (k : ℕ) → Runs old met →
      FindsNode old new key k ⊎ MakesNode old new key k → Runs new met
  adds_edge : (old new : List Node) (before met : List Met) (k : ℕ) (e : Edge) → Runs old before → k < length old →
      (Contains (items_at old k) e.item → ⊥) → new ≡ with_edge old k e → met ≡ before ++ met_by_edge old k e → Runs new met
  adds_pop : (old new : List Node) (before met : List Met) (k : ℕ) (p : Pop) → Runs old before → k < length old →
      (Contains (ends_at old k) p.end → ⊥) → new ≡ with_pop old k p → met ≡ before ++ met_by_pop old k p → Runs new met

-- then no pair met twice, and those that met are each edge of a node with each of its pops
abbrev pub EachPairOnce : Type 0
EachPairOnce =
    (nodes : List Node) (met : List Met) → Runs nodes met →
    NoneTwice met ×
    ((m : Met) → Contains met m ↔ (Contains (edges_at nodes m.node) m.edge × Contains (pops_at nodes m.node) m.pop))
