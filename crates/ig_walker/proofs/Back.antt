-- Each walk is that of a tree.
use Rattle.std.proofs.Common.{◌≡◌, ℕ, zero, suc, List, [], ◌∷◌, ◌++◌, Option, Some, None, length, slice_get, map, refl, sym, ap, ap₂, ◌∙◌, subst, append_assoc}
use Rattle.std.proofs.lemmas.Option.{same_Some}
use Rattle.std.proofs.lemmas.List.{append-nil, length-map}
use Rattle.ig_text.specs.declared.text.Span.{Span}
use Rattle.ig_text.specs.Tree.{Tree, Trees, none, more, one, join}
use Rattle.ig_text.specs.Tree as shape
use Rattle.ig_text.proofs.Lists.{unmapped_at}
use Rattle.ig_forest_tables.specs.Forest as forest
use Rattle.ig_forest_tables.specs.Forest.{Forest, ItemNode}
use Rattle.ig_forest_tables.specs.Unfold.{noted, OfNode, OfItem, Unfold}
use Rattle.ig_forest_tables.specs.Unfold as trees
use Rattle.ig_forest_tables.specs.declared.entry.Entry.{Entry}
use Rattle.ig_forest_tables.specs.declared.entry.Entry.TheVariants.{Begin, Pass, Take}
use Rattle.ig_forest_tables.specs.declared.entry.Child.TheVariants as child
use Rattle.ig_walker.specs.Walks.{Walk, Leads, cursor, Before, Opens, Passed, Least, Next, Last}
use Rattle.ig_walker.specs.Walks as w
use Rattle.ig_heights.specs.Table.{choices_in, entries_in}
use Rattle.ig_walker.specs.Options.{behind_choice, behind_entry, options}
use Rattle.ig_forest.specs.Flat.{flat}
use Rattle.ig_walker.specs.Written.{emits}
use Rattle.ig_forest.specs.declared.tree.Part.{Part}
use Rattle.ig_walker.specs.declared.goal.Goal.{Goal}
use Rattle.ig_walker.specs.declared.goal.Goal.TheVariants.{Node, Item, Leaf}
use Rattle.ig_walker.specs.declared.goal.Visit.{Visit}
use Rattle.ig_walker.proofs.Unfolding.{node_walk}
use Rattle.ig_walker.proofs.Cursors.{one_walk}

module _ (f : Forest) where
  abbrev opts : Goal → List (List Goal)
  opts = options f

  pub data Pending : List Goal → List ℕ → Type 0 where
    nothing : Pending [] []
    of_node : (v d : ℕ) (gs : List Goal) (bs cs ds : List ℕ) (t : Tree) → OfNode f v d bs t → Pending gs cs → ds ≡ bs ++ cs → Pending (Node v d ∷ gs) ds
    of_item : (k d : ℕ) (gs : List Goal) (bs cs ds : List ℕ) (ts : Trees) → OfItem f k d bs ts → Pending gs cs → ds ≡ bs ++ cs → Pending (Item k d ∷ gs) ds
    of_leaf : (span : Span) (gs : List Goal) (cs : List ℕ) → Pending gs cs → Pending (Leaf span ∷ gs) cs

  pub record ItemFirst (k d : ℕ) (gs : List Goal) (ds : List ℕ) : Type 0 where
    pub bs : List ℕ
    pub cs : List ℕ
    pub ts : Trees
    pub here : OfItem f k d bs ts
    pub others : Pending gs cs
    pub whole : ds ≡ bs ++ cs

  pub record NodeFirst (v d : ℕ) (gs : List Goal) (ds : List ℕ) : Type 0 where
    pub bs : List ℕ
    pub cs : List ℕ
    pub t : Tree
    pub here : OfNode f v d bs t
    pub others : Pending gs cs
    pub whole : ds ≡ bs ++ cs

  pub item_first : (k d : ℕ) (gs : List Goal) (ds : List ℕ) → Pending (Item k d ∷ gs) ds → ItemFirst k d gs ds
  item_first k d gs ds (of_item _ _ _ bs cs _ ts here others whole) =
      record { bs = bs; cs = cs; ts = ts; here = here; others = others; whole = whole }

  pub node_first : (v d : ℕ) (gs : List Goal) (ds : List ℕ) → Pending (Node v d ∷ gs) ds → NodeFirst v d gs ds
  node_first v d gs ds (of_node _ _ _ bs cs _ t here others whole) =
      record { bs = bs; cs = cs; t = t; here = here; others = others; whole = whole }

  leaf_first : (span : Span) (gs : List Goal) (ds : List ℕ) → Pending (Leaf span ∷ gs) ds → Pending gs ds
  leaf_first span gs ds (of_leaf _ _ _ others) = others

  by_node : (v d : ℕ) (gs part : List Goal) (i : ℕ) (cs : List ℕ) (node : Option forest.Node) → slice_get f.nodes v ≡ node →
      slice_get (map (behind_choice d) (choices_in node)) i ≡ Some part → Pending (part ++ gs) cs →
      Pending (Node v (suc d) ∷ gs) (noted (length (map (behind_choice d) (choices_in node))) i ++ cs)
  by_node v d gs part i cs None e has p = cc
  by_node v d gs part i cs (Some node) e has p =
      let m = unmapped_at (behind_choice d) node.alternatives i part has in
      let h = item_first m.0.item d gs cs (subst (λ (z : List Goal). Pending (z ++ gs) cs) (sym m.2) p) in
      of_node v (suc d) gs (noted (length node.alternatives) i ++ h.bs) h.cs _ (shape.Node m.0.tag node.span.begin node.span.end h.ts)
      (trees.choose v d i node m.0 h.bs (noted (length node.alternatives) i ++ h.bs) h.ts _ e m.1 h.here refl refl)
      h.others
      (ap₂ (λ (n : ℕ) (z : List ℕ). noted n i ++ z) (length-map node.alternatives (behind_choice d)) h.whole
      ∙ sym (append_assoc (noted (length node.alternatives) i) h.bs h.cs))

  by_entry_of : (k d : ℕ) (gs : List Goal) (i : ℕ) (cs : List ℕ) (it : ItemNode) (e : Entry) → slice_get f.items k ≡ Some it →
      slice_get it.entries i ≡ Some e → Pending (behind_entry d e ++ gs) cs →
      Pending (Item k d ∷ gs) (noted (length it.entries) i ++ cs)
  by_entry_of k d gs i cs it Begin has at p =
      of_item k d gs (noted (length it.entries) i) cs _ none (trees.begin k d i it _ has at refl) p refl
  by_entry_of k d gs i cs it (Pass prev) has at p =
      let h = item_first prev d gs cs p in
      let many = noted (length it.entries) i in
      of_item k d gs (many ++ h.bs) h.cs _ h.ts (trees.pass k d i prev it h.bs _ h.ts has at h.here refl) h.others
      (ap (λ (z : List ℕ). many ++ z) h.whole ∙ sym (append_assoc many h.bs h.cs))
  by_entry_of k d gs i cs it (Take prev (child.Leaf span)) has at p =
      let h = item_first prev d (Leaf span ∷ gs) cs p in
      let many = noted (length it.entries) i in
      of_item k d gs (many ++ h.bs) h.cs _ (join h.ts (one (shape.Leaf span.begin span.end)))
      (trees.leaf k d i prev it span h.bs _ h.ts _ has at h.here refl refl) (leaf_first span gs h.cs h.others)
      (ap (λ (z : List ℕ). many ++ z) h.whole ∙ sym (append_assoc many h.bs h.cs))
  by_entry_of k d gs i cs it (Take prev (child.Node v)) has at p =
      let h = item_first prev d (Node v d ∷ gs) cs p in
      let s = node_first v d gs h.cs h.others in
      let many = noted (length it.entries) i in
      of_item k d gs (many ++ (h.bs ++ s.bs)) s.cs _ (join h.ts (one s.t))
      (trees.node k d i prev v it h.bs s.bs _ h.ts _ s.t has at h.here s.here refl refl) s.others
      (ap (λ (z : List ℕ). many ++ z) (h.whole ∙ ap (λ (z : List ℕ). h.bs ++ z) s.whole ∙ sym (append_assoc h.bs s.bs s.cs)) ∙ sym (append_assoc many (h.bs ++ s.bs) s.cs))

  by_item_of : (k d : ℕ) (gs part : List Goal) (i : ℕ) (cs : List ℕ) (it : Option ItemNode) → slice_get f.items k ≡ it →
      slice_get (map (behind_entry d) (entries_in it)) i ≡ Some part → Pending (part ++ gs) cs →
      Pending (Item k d ∷ gs) (noted (length (map (behind_entry d) (entries_in it))) i ++ cs)
  by_item_of k d gs part i cs None e has p = cc
  by_item_of k d gs part i cs (Some it) e has p =
      let m = unmapped_at (behind_entry d) it.entries i part has in
      subst (λ (n : ℕ). Pending (Item k d ∷ gs) (noted n i ++ cs)) (sym (length-map it.entries (behind_entry d)))
      (by_entry_of k d gs i cs it m.0 e m.1 (subst (λ (z : List Goal). Pending (z ++ gs) cs) (sym m.2) p))

  by_goal : (g : Goal) (gs part : List Goal) (i : ℕ) (cs : List ℕ) → slice_get (opts g) i ≡ Some part → Pending (part ++ gs) cs →
      Pending (g ∷ gs) (noted (length (opts g)) i ++ cs)
  by_goal (Node v zero) gs part i cs has p = cc
  by_goal (Node v (suc d)) gs part i cs has p = by_node v d gs part i cs (slice_get f.nodes v) refl has p
  by_goal (Item k d) gs part i cs has p = by_item_of k d gs part i cs (slice_get f.items k) refl has p
  by_goal (Leaf span) gs part zero cs has p =
      of_leaf span gs cs (subst (λ (z : List Goal). Pending (z ++ gs) cs) (sym (same_Some [] part has)) p)
  by_goal (Leaf span) gs part (suc i) cs has p = cc

  pub walk_pending : {gs : List Goal} {vs : List Visit} → Walk opts gs vs → Pending gs (cursor opts vs)
  walk_pending w.done = nothing
  walk_pending (w.step g gs part i vs has walk) = by_goal g gs part i (cursor opts vs) has (walk_pending walk)

  pending_none : {gs : List Goal} {cs : List ℕ} → Pending gs cs → gs ≡ [] → cs ≡ []
  pending_none nothing e = refl
  pending_none (of_node _ _ _ _ _ _ _ _ _ _) e = cc
  pending_none (of_item _ _ _ _ _ _ _ _ _ _) e = cc
  pending_none (of_leaf _ _ _ _) e = cc

  pub record TreeOf (v d : ℕ) (vs : List Visit) : Type 0 where
    pub t : Tree
    pub here : OfNode f v d (cursor opts vs) t
    pub writes : (ps : List Part) → emits f ps vs ≡ ps ++ flat t

  -- a walk from a node is that of a tree, and writes it
  pub tree_of : (v d : ℕ) (vs : List Visit) → Walk opts (Node v d ∷ []) vs → TreeOf v d vs
  tree_of v d vs walk =
      let s = node_first v d [] (cursor opts vs) (walk_pending walk) in
      let told : s.bs ≡ cursor opts vs = sym (s.whole ∙ ap (λ (z : List ℕ). s.bs ++ z) (pending_none s.others refl) ∙ append-nil s.bs) in
      let h = node_walk f s.here in
      let same : h.vs ≡ vs = one_walk opts h.vs vs h.walk walk (h.told ∙ told) in
      record {
        t = s.t;
        here = subst (λ (z : List ℕ). OfNode f v d z s.t) told s.here;
        writes = subst (λ (z : List Visit). (ps : List Part) → emits f ps z ≡ ps ++ flat s.t) same h.writes;
      }
