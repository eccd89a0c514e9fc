-- What the edges and the pops of each node are, when one more is added.
use Rattle.std.proofs.Common.{◌≡◌, ℕ, zero, suc, ◌<◌, List, [], ◌∷◌, ◌++◌, length, refl, ap, arith}
use Rattle.ig_item.specs.declared.items.InstanceKey.{InstanceKey}
use Rattle.ig_gss.specs.declared.marks.Edge.{Edge}
use Rattle.ig_gss.specs.declared.marks.Pop.{Pop}
use Rattle.ig_gss.specs.Nodes.{Node, fresh, keys_of, edges_at, pops_at, with_edge, with_pop}

pub edges_there : (s : List Node) (k : ℕ) (e : Edge) → k < length s → edges_at (with_edge s k e) k ≡ edges_at s k ++ e ∷ []
edges_there [] k e lt = absurd (omega (arith, lt))
edges_there (n ∷ ns) zero e lt = refl
edges_there (n ∷ ns) (suc k) e lt = edges_there ns k e (omega (arith, lt))

pub edges_elsewhere : (s : List Node) (k j : ℕ) (e : Edge) → (j ≡ k → ⊥) → edges_at (with_edge s k e) j ≡ edges_at s j
edges_elsewhere [] k j e other = refl
edges_elsewhere (n ∷ ns) zero zero e other = absurd (other refl)
edges_elsewhere (n ∷ ns) zero (suc j) e other = refl
edges_elsewhere (n ∷ ns) (suc k) zero e other = refl
edges_elsewhere (n ∷ ns) (suc k) (suc j) e other = edges_elsewhere ns k j e (λ z. other (omega (arith, z)))

pub pops_stay : (s : List Node) (k j : ℕ) (e : Edge) → pops_at (with_edge s k e) j ≡ pops_at s j
pops_stay [] k j e = refl
pops_stay (n ∷ ns) zero zero e = refl
pops_stay (n ∷ ns) zero (suc j) e = refl
pops_stay (n ∷ ns) (suc k) zero e = refl
pops_stay (n ∷ ns) (suc k) (suc j) e = pops_stay ns k j e

pub pops_there : (s : List Node) (k : ℕ) (p : Pop) → k < length s → pops_at (with_pop s k p) k ≡ pops_at s k ++ p ∷ []
pops_there [] k p lt = absurd (omega (arith, lt))
pops_there (n ∷ ns) zero p lt = refl
pops_there (n ∷ ns) (suc k) p lt = pops_there ns k p (omega (arith, lt))

pub pops_elsewhere : (s : List Node) (k j : ℕ) (p : Pop) → (j ≡ k → ⊥) → pops_at (with_pop s k p) j ≡ pops_at s j
pops_elsewhere [] k j p other = refl
pops_elsewhere (n ∷ ns) zero zero p other = absurd (other refl)
pops_elsewhere (n ∷ ns) zero (suc j) p other = refl
pops_elsewhere (n ∷ ns) (suc k) zero p other = refl
pops_elsewhere (n ∷ ns) (suc k) (suc j) p other = pops_elsewhere ns k j p (λ z. other (omega (arith, z)))

pub edges_stay : (s : List Node) (k j : ℕ) (p : Pop) → edges_at (with_pop s k p) j ≡ edges_at s j
edges_stay [] k j p = refl
edges_stay (n ∷ ns) zero zero p = refl
edges_stay (n ∷ ns) zero (suc j) p = refl
edges_stay (n ∷ ns) (suc k) zero p = refl
edges_stay (n ∷ ns) (suc k) (suc j) p = edges_stay ns k j p

-- the instances stay
pub edge_keys : (s : List Node) (k : ℕ) (e : Edge) → keys_of (with_edge s k e) ≡ keys_of s
edge_keys [] k e = refl
edge_keys (n ∷ ns) zero e = refl
edge_keys (n ∷ ns) (suc k) e = ap (λ z. n.key ∷ z) (edge_keys ns k e)

pub pop_keys : (s : List Node) (k : ℕ) (p : Pop) → keys_of (with_pop s k p) ≡ keys_of s
pop_keys [] k p = refl
pop_keys (n ∷ ns) zero p = refl
pop_keys (n ∷ ns) (suc k) p = ap (λ z. n.key ∷ z) (pop_keys ns k p)

-- a node that was just made has neither edges nor pops
pub fresh_edges : (s : List Node) (key : InstanceKey) (j : ℕ) → edges_at (s ++ fresh key ∷ []) j ≡ edges_at s j
fresh_edges [] key zero = refl
fresh_edges [] key (suc j) = refl
fresh_edges (n ∷ ns) key zero = refl
fresh_edges (n ∷ ns) key (suc j) = fresh_edges ns key j

pub fresh_pops : (s : List Node) (key : InstanceKey) (j : ℕ) → pops_at (s ++ fresh key ∷ []) j ≡ pops_at s j
fresh_pops [] key zero = refl
fresh_pops [] key (suc j) = refl
fresh_pops (n ∷ ns) key zero = refl
fresh_pops (n ∷ ns) key (suc j) = fresh_pops ns key j
