use Rattle.std.proofs.Common.{◌≡◌, ◌∙◌, ℕ, zero, suc, ◌≤◌, List, [], ◌∷◌, Contains, length, map, refl, ap, subst, arith}
use Rattle.ig_text.proofs.Lists.{none_in_nil}
use Rattle.ig_item.specs.declared.items.InstanceKey.{InstanceKey}
use Rattle.ig_gss.specs.Nodes.{Node, MakesNode, edges_at, items_at}
use Rattle.ig_gss.proofs.Grown.{fresh_edges}
use Rattle.ig_gss.proofs.tests.call.Goals as goal

none_past : (s : List Node) (k : ℕ) → length s ≤ k → edges_at s k ≡ []
none_past [] k le = refl
none_past (n ∷ ns) zero le = absurd (omega (arith, le))
none_past (n ∷ ns) (suc k) le = none_past ns k (omega (arith, le))

-- nothing waits for a node that is new
none_waits : (old new : List Node) (key : InstanceKey) (k item : ℕ) → MakesNode old new key k → Contains (items_at new k) item → ⊥
none_waits old new key k item made c =
    let is : edges_at new k ≡ [] =
    ap (λ z. edges_at z k) made.0 ∙ fresh_edges old key k ∙ none_past old k (let e = made.1 in omega (arith, e)) in
    none_in_nil item (subst (λ z. Contains (map (λ e. e.item) z) item) is c)

pub add_edge-requires-clause-is_new : goal.add_edge-requires-clause-is_new
add_edge-requires-clause-is_new c = none_waits _ _ _ _ _ (c.in_ok-node.ensures.made c.if-is_new.true)
