-- The nodes by number, where one has an edge or a pop more.
use Rattle.std.proofs.Common.{◌≡◌, ◌⊎◌, ⊎_elim, inl, inr, ℕ, zero, suc, ◌<◌, List, [], ◌∷◌, ◌++◌, length, Contains, Some, refl, sym, ap, subst, arith, slice_get, map}
use Rattle.std.proofs.lemmas.List.{length-map}
use Rattle.ig_text.proofs.Lists.{contains_first, contains_later, contains_from_at, get_within, in_pushed, in_rest, none_in_nil}
use Rattle.ig_item.specs.Tables.{HaveValues}
use Rattle.ig_item.specs.WellKinded.{NoneTwice}
use Rattle.ig_item.specs.declared.items.InstanceKey.{InstanceKey}
use Rattle.ig_gss.specs.Nodes.{Node, edges_at, keys_of, pops_at, with_edge, with_pop}
use Rattle.ig_gss.specs.declared.marks.Edge.{Edge}
use Rattle.ig_gss.specs.declared.marks.Pop.{Pop}
use Rattle.ig_run_moves.specs.Tables.{IsNamed, item_by}
use Rattle.ig_engine.specs.Reached.{Reached, AreTables, reached, seen}
use Rattle.ig_engine.proofs.Tables.{finding}

-- the marks of the node at a place
pub edges_there : (nodes : List Node) (k : ℕ) (n : Node) → slice_get nodes k ≡ Some n → edges_at nodes k ≡ n.edges
edges_there [] k n at = absurd (none_in_nil n (contains_from_at [] k n at))
edges_there (m ∷ ns) zero n at = let e : Some m ≡ Some n = at in let same : m ≡ n = cc e in ap (λ (z : Node). z.edges) same
edges_there (m ∷ ns) (suc k) n at = edges_there ns k n at

pub pops_there : (nodes : List Node) (k : ℕ) (n : Node) → slice_get nodes k ≡ Some n → pops_at nodes k ≡ n.pops
pops_there [] k n at = absurd (none_in_nil n (contains_from_at [] k n at))
pops_there (m ∷ ns) zero n at = let e : Some m ≡ Some n = at in let same : m ≡ n = cc e in ap (λ (z : Node). z.pops) same
pops_there (m ∷ ns) (suc k) n at = pops_there ns k n at

-- the keys stay
pub edge_keys : (nodes : List Node) (k : ℕ) (e : Edge) → keys_of (with_edge nodes k e) ≡ keys_of nodes
edge_keys [] k e = refl
edge_keys (n ∷ ns) zero e = refl
edge_keys (n ∷ ns) (suc k) e = ap (λ (z : List InstanceKey). n.key ∷ z) (edge_keys ns k e)

pub pop_keys : (nodes : List Node) (k : ℕ) (p : Pop) → keys_of (with_pop nodes k p) ≡ keys_of nodes
pop_keys [] k p = refl
pop_keys (n ∷ ns) zero p = refl
pop_keys (n ∷ ns) (suc k) p = ap (λ (z : List InstanceKey). n.key ∷ z) (pop_keys ns k p)

-- an edge of a node was there before, or is the one that was added
pub record WasThere (nodes : List Node) (e : Edge) : Type 0 where
  pub node : Node
  pub among : Contains nodes node
  pub has : Contains node.edges e

pub edge_was : (nodes : List Node) (k : ℕ) (edge : Edge) (m : Node) → Contains (with_edge nodes k edge) m → (e : Edge) → Contains m.edges e →
    WasThere nodes e ⊎ (e ≡ edge)
edge_was [] k edge m c e h = absurd (none_in_nil m c)
edge_was (n ∷ ns) zero edge m c e h =
    ⊎_elim
    (λ (q : record n { edges = n.edges ++ edge ∷ [] } ≡ m).
    ⊎_elim (λ (l : Contains n.edges e). inl (record { node = n; among = contains_first n ns; has = l })) (λ (r : e ≡ edge). inr r)
    (in_pushed n.edges edge e (subst (λ (z : Node). Contains z.edges e) (sym q) h)))
    (λ (q : Contains ns m). inl (record { node = m; among = contains_later n ns m q; has = h }))
    (in_rest (record n { edges = n.edges ++ edge ∷ [] }) ns m c)
edge_was (n ∷ ns) (suc k) edge m c e h =
    ⊎_elim
    (λ (q : n ≡ m). inl (record { node = n; among = contains_first n ns; has = subst (λ (z : Node). Contains z.edges e) (sym q) h }))
    (λ (q : Contains (with_edge ns k edge) m).
    ⊎_elim
    (λ (w : WasThere ns e). inl (record { node = w.node; among = contains_later n ns w.node w.among; has = w.has }))
    (λ (r : e ≡ edge). inr r) (edge_was ns k edge m q e h))
    (in_rest n (with_edge ns k edge) m c)

pub pop_was : (nodes : List Node) (k : ℕ) (p : Pop) (m : Node) → Contains (with_pop nodes k p) m → (e : Edge) → Contains m.edges e →
    WasThere nodes e
pop_was [] k p m c e h = absurd (none_in_nil m c)
pop_was (n ∷ ns) zero p m c e h =
    ⊎_elim
    (λ (q : record n { pops = n.pops ++ p ∷ [] } ≡ m).
    record { node = n; among = contains_first n ns; has = subst (λ (z : Node). Contains z.edges e) (sym q) h })
    (λ (q : Contains ns m). record { node = m; among = contains_later n ns m q; has = h })
    (in_rest (record n { pops = n.pops ++ p ∷ [] }) ns m c)
pop_was (n ∷ ns) (suc k) p m c e h =
    ⊎_elim
    (λ (q : n ≡ m). record { node = n; among = contains_first n ns; has = subst (λ (z : Node). Contains z.edges e) (sym q) h })
    (λ (q : Contains (with_pop ns k p) m).
    let w = pop_was ns k p m q e h in record { node = w.node; among = contains_later n ns w.node w.among; has = w.has })
    (in_rest n (with_pop ns k p) m c)

-- a named item's instance has a node
pub node_there : (nodes : List Node) (k : ℕ) → k < length (keys_of nodes) → (n : Node) × (slice_get nodes k ≡ Some n)
node_there nodes k lt = get_within nodes k (let n = length-map nodes (λ (m : Node). m.key) in omega (arith, n, lt))

-- other nodes with the same keys
module _ (a : Reached) (nodes : List Node) (same : keys_of nodes ≡ keys_of a.nodes) where
  pub same_keys_tables : AreTables a → AreTables (reached a.envs nodes a.found)
  same_keys_tables t =
      record {
        environments = t.environments;
        instances = subst NoneTwice (sym same) t.instances;
        values = subst (HaveValues a.envs) (sym same) t.values;
        items = λ x c. subst (λ (z : List InstanceKey). IsNamed a.envs z x) (sym same) (t.items x c);
        numbers = t.numbers;
      }

  pub same_keys_seen : seen (reached a.envs nodes a.found) ≡ seen a
  same_keys_seen =
      ap (λ (z : List InstanceKey). finding (map (item_by a.envs z) a.found.items) a.found.ways a.found.waiting) same
