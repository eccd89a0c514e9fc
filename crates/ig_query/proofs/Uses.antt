-- Each item node with two entries makes a node ambiguous, since some tree uses it.
use Rattle.std.proofs.Common.{◌≡◌, ◌⊎◌, ⊎_elim, inl, inr, ℕ, List, refl, subst, arith}
use Rattle.ig_text.specs.Tree.{Tree, Trees}
use Rattle.ig_text.proofs.Lists.{contains_from_at}
use Rattle.ig_forest_tables.specs.Forest.{Forest}
use Rattle.ig_forest_tables.specs.Unfold as ways
use Rattle.ig_forest_tables.specs.Unfold.{OfNode, OfItem, TheEntry, node_uses, item_uses, IsTrim}
use Rattle.ig_query.specs.Ambiguity as forked
use Rattle.ig_query.specs.Ambiguity.{IsAmbiguous, IsForked}
use Rattle.ig_query.specs.CodeAmbiguity.{HasFork}

module _ (f : Forest) where
  same_entry : (m i k j : ℕ) → TheEntry k j ≡ TheEntry m i → IsForked f k → IsForked f m
  same_entry m i k j e fork = let same : k ≡ m = cc in subst (IsForked f) same fork

  mutual
    -- a tree that uses an entry of an item node with two entries goes through an ambiguous node
    node_leads : {v d : ℕ} {cs : List ℕ} {t : Tree} (o : OfNode f v d cs t) (k i : ℕ) → IsForked f k →
        node_uses f o (TheEntry k i) → IsAmbiguous f
    node_leads (ways.choose v d i n choice bs cs ts t at among of_item c is) k j fork (inl e) = cc
    node_leads (ways.choose v d i n choice bs cs ts t at among of_item c is) k j fork (inr (inl e)) = cc
    node_leads (ways.choose v d i n choice bs cs ts t at among of_item c is) k j fork (inr (inr u)) =
        ⊎_elim (λ g. (v, record { node = n; there = at; ways = inr (choice, contains_from_at n.alternatives i choice among, g) }))
        (λ a. a) (item_leads of_item k j fork u)

    item_leads : {m d : ℕ} {cs : List ℕ} {ts : Trees} (o : OfItem f m d cs ts) (k i : ℕ) → IsForked f k →
        item_uses f o (TheEntry k i) → IsForked f m ⊎ IsAmbiguous f
    item_leads (ways.begin m d i it cs at among c) k j fork e = inl (same_entry m i k j e fork)
    item_leads (ways.pass m d i prev it bs cs ts at among of_prev c) k j fork (inl e) = inl (same_entry m i k j e fork)
    item_leads (ways.pass m d i prev it bs cs ts at among of_prev c) k j fork (inr u) =
        ⊎_elim (λ g. inl (forked.behind m prev it _ at (contains_from_at it.entries i _ among) refl g)) (λ a. inr a)
        (item_leads of_prev k j fork u)
    item_leads (ways.leaf m d i prev it span bs cs ts us at among of_prev c is) k j fork (inl e) = inl (same_entry m i k j e fork)
    item_leads (ways.leaf m d i prev it span bs cs ts us at among of_prev c is) k j fork (inr u) =
        ⊎_elim (λ g. inl (forked.behind m prev it _ at (contains_from_at it.entries i _ among) refl g)) (λ a. inr a)
        (item_leads of_prev k j fork u)
    item_leads (ways.node m d i prev v it ps bs cs ts us t at among of_prev of_node c is) k j fork (inl e) =
        inl (same_entry m i k j e fork)
    item_leads (ways.node m d i prev v it ps bs cs ts us t at among of_prev of_node c is) k j fork (inr (inl u)) =
        ⊎_elim (λ g. inl (forked.behind m prev it _ at (contains_from_at it.entries i _ among) refl g)) (λ a. inr a)
        (item_leads of_prev k j fork u)
    item_leads (ways.node m d i prev v it ps bs cs ts us t at among of_prev of_node c is) k j fork (inr (inr u)) =
        inr (node_leads of_node k j fork u)

  pub from_fork : IsTrim f → HasFork f → IsAmbiguous f
  from_fork trim h =
      let two = h.two in
      let used = trim.alive.entries h.number 0 h.item h.there (omega (arith, two)) in
      node_leads used.unfolds h.number 0 (forked.here h.number h.item h.there h.two) used.uses
