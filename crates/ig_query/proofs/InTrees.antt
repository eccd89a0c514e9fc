-- The trees of the root have the nodes of the forest.
use Rattle.std.proofs.Common.{◌≡◌, ◌⊎◌, ⊎_elim, inl, inr, ℕ, List, Some, slice_get, sym, ap, ◌∙◌, subst}
use Rattle.std.proofs.lemmas.Option.{same_Some, slice_get_within}
use Rattle.ig_text.specs.Tree.{Tree, Trees, Leaf, Node, none, more, one, join}
use Rattle.ig_text.specs.declared.tag.Tag.{Tag}
use Rattle.ig_text.proofs.Lists.{at_from_contains, contains_from_at}
use Rattle.ig_forest_tables.specs.Forest as forest
use Rattle.ig_forest_tables.specs.Forest.{Forest}
use Rattle.ig_forest_tables.specs.Unfold as ways
use Rattle.ig_forest_tables.specs.Unfold.{OfNode, OfItem, TheAlternative, node_uses, item_uses, IsTrim}
use Rattle.ig_forest_tables.specs.declared.entry.Choice.{Choice}
use Rattle.ig_query.specs.InTrees.{AnyHasNode, HasNode, ForestHasNode}
use Rattle.ig_query.specs.Laws.{NodesAreThoseOfTrees}

module _ (tag : Tag) (i j : ℕ) where
  in_join : (ts us : Trees) → AnyHasNode tag i j (join ts us) → AnyHasNode tag i j ts ⊎ AnyHasNode tag i j us
  in_join none us h = inr h
  in_join (more t ts) us (inl h) = inl (inl h)
  in_join (more t ts) us (inr h) = ⊎_elim (λ g. inl (inr g)) (λ g. inr g) (in_join ts us h)

  join_left : (ts us : Trees) → AnyHasNode tag i j ts → AnyHasNode tag i j (join ts us)
  join_left none us h = absurd h
  join_left (more t ts) us (inl h) = inl h
  join_left (more t ts) us (inr h) = inr (join_left ts us h)

  join_right : (ts us : Trees) → AnyHasNode tag i j us → AnyHasNode tag i j (join ts us)
  join_right none us h = h
  join_right (more t ts) us h = inr (join_right ts us h)

  module _ (f : Forest) where
    -- the alternative of that number has the tag, and its node goes from i to j
    record HasAt (w k : ℕ) : Type 0 where
      node : forest.Node
      choice : Choice
      there : slice_get f.nodes w ≡ Some node
      at : slice_get node.alternatives k ≡ Some choice
      tagged : choice.tag ≡ tag
      begins : node.span.begin ≡ i
      ends : node.span.end ≡ j

    at_choice : (v k : ℕ) (n : forest.Node) (choice : Choice) (ts : Trees) → slice_get f.nodes v ≡ Some n →
        slice_get n.alternatives k ≡ Some choice → (AnyHasNode tag i j ts → ForestHasNode f tag i j) →
        HasNode tag i j (Node choice.tag n.span.begin n.span.end ts) → ForestHasNode f tag i j
    at_choice v k n choice ts at among below (inl p) =
        record {
          number = v;
          node = n;
          choice = choice;
          there = at;
          among = contains_from_at n.alternatives k choice among;
          tagged = p.0;
          begins = p.1;
          ends = p.2;
        }
    at_choice v k n choice ts at among below (inr u) = below u

    its_tag : (v m : ℕ) (n : forest.Node) (choice : Choice) → slice_get f.nodes v ≡ Some n → slice_get n.alternatives m ≡ Some choice →
        (w k : ℕ) → HasAt w k → TheAlternative w k ≡ TheAlternative v m → (choice.tag ≡ tag) × (n.span.begin ≡ i) × (n.span.end ≡ j)
    its_tag v m n choice at among w k h e =
        let first : w ≡ v = cc in
        let second : k ≡ m = cc in
        let nodes : n ≡ h.node = same_Some n h.node (sym at ∙ ap (slice_get f.nodes) (sym first) ∙ h.there) in
        let choices : choice ≡ h.choice =
        same_Some choice h.choice
        (sym among ∙ ap (λ (z : forest.Node). slice_get z.alternatives m) nodes ∙ ap (slice_get h.node.alternatives) (sym second) ∙ h.at) in (
          ap (λ (z : Choice). z.tag) choices ∙ h.tagged,
          ap (λ (z : forest.Node). z.span.begin) nodes ∙ h.begins,
          ap (λ (z : forest.Node). z.span.end) nodes ∙ h.ends,
        )

    mutual
      -- a node of a tree is one of the forest
      in_forest : {v d : ℕ} {cs : List ℕ} {t : Tree} → OfNode f v d cs t → HasNode tag i j t → ForestHasNode f tag i j
      in_forest (ways.choose v d k n choice bs cs ts t at among of_item c is) h =
          at_choice v k n choice ts at among (λ u. list_in_forest of_item u) (subst (HasNode tag i j) is h)

      list_in_forest : {m d : ℕ} {cs : List ℕ} {ts : Trees} → OfItem f m d cs ts → AnyHasNode tag i j ts → ForestHasNode f tag i j
      list_in_forest (ways.begin m d k it cs at among c) h = absurd h
      list_in_forest (ways.pass m d k prev it bs cs ts at among of_prev c) h = list_in_forest of_prev h
      list_in_forest (ways.leaf m d k prev it span bs cs ts us at among of_prev c is) h =
          ⊎_elim (λ g. list_in_forest of_prev g) (λ g. absurd (⊎_elim (λ no. no) (λ no. no) g))
          (in_join ts (one (Leaf span.begin span.end)) (subst (AnyHasNode tag i j) is h))
      list_in_forest (ways.node m d k prev v it ps bs cs ts us t at among of_prev of_node c is) h =
          ⊎_elim (λ g. list_in_forest of_prev g) (λ g. ⊎_elim (λ y. in_forest of_node y) (λ no. absurd no) g)
          (in_join ts (one t) (subst (AnyHasNode tag i j) is h))

    mutual
      -- a tree that uses an alternative has a node with its tag
      in_tree : {v d : ℕ} {cs : List ℕ} {t : Tree} (o : OfNode f v d cs t) (w k : ℕ) → HasAt w k → node_uses f o (TheAlternative w k) →
          HasNode tag i j t
      in_tree (ways.choose v d m n choice bs cs ts t at among of_item c is) w k there (inl e) = cc
      in_tree (ways.choose v d m n choice bs cs ts t at among of_item c is) w k there (inr (inl e)) =
          subst (HasNode tag i j) (sym is) (inl (its_tag v m n choice at among w k there e))
      in_tree (ways.choose v d m n choice bs cs ts t at among of_item c is) w k there (inr (inr u)) =
          subst (HasNode tag i j) (sym is) (inr (in_list of_item w k there u))

      in_list : {m d : ℕ} {cs : List ℕ} {ts : Trees} (o : OfItem f m d cs ts) (w k : ℕ) → HasAt w k → item_uses f o (TheAlternative w k) →
          AnyHasNode tag i j ts
      in_list (ways.begin m d q it cs at among c) w k there e = cc
      in_list (ways.pass m d q prev it bs cs ts at among of_prev c) w k there (inl e) = cc
      in_list (ways.pass m d q prev it bs cs ts at among of_prev c) w k there (inr u) = in_list of_prev w k there u
      in_list (ways.leaf m d q prev it span bs cs ts us at among of_prev c is) w k there (inl e) = cc
      in_list (ways.leaf m d q prev it span bs cs ts us at among of_prev c is) w k there (inr u) =
          subst (AnyHasNode tag i j) (sym is) (join_left ts (one (Leaf span.begin span.end)) (in_list of_prev w k there u))
      in_list (ways.node m d q prev v it ps bs cs ts us t at among of_prev of_node c is) w k there (inl e) = cc
      in_list (ways.node m d q prev v it ps bs cs ts us t at among of_prev of_node c is) w k there (inr (inl u)) =
          subst (AnyHasNode tag i j) (sym is) (join_left ts (one t) (in_list of_prev w k there u))
      in_list (ways.node m d q prev v it ps bs cs ts us t at among of_prev of_node c is) w k there (inr (inr u)) =
          subst (AnyHasNode tag i j) (sym is) (join_right ts (one t) (inl (in_tree of_node w k there u)))

pub nodes_are_those_of_trees : NodesAreThoseOfTrees
nodes_are_those_of_trees f tag i j trim = (
  λ h.
      let at = at_from_contains h.node.alternatives h.choice h.among in
      let used = trim.alive.alternatives h.number at.0 h.node h.there (slice_get_within h.node.alternatives at.0 h.choice at.1) in
      record {
        depth = used.depth;
        tree = used.tree;
        unfolds = (used.cursor, used.unfolds);
        has =
            in_tree tag i j f used.unfolds h.number at.0
            (record {
              node = h.node;
              choice = h.choice;
              there = h.there;
              at = at.1;
              tagged = h.tagged;
              begins = h.begins;
              ends = h.ends;
            })
            used.uses;
      },
  λ t. in_forest tag i j f t.unfolds.1 t.has,
)
