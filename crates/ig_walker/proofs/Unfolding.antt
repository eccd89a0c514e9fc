-- The trees of a forest are the walks from its root, each with its cursor and its parts.
use Rattle.std.proofs.Common.{◌≡◌, ℕ, suc, ◌+◌, List, [], ◌∷◌, ◌++◌, Option, Some, length, slice_get, refl, sym, ap, ap₂, ◌∙◌, subst, arith, append_assoc}
use Rattle.std.proofs.lemmas.List.{append-nil, length-map}
use Rattle.ig_text.specs.Tree.{Tree, Trees, none, more, one, join}
use Rattle.ig_text.specs.Tree as shape
use Rattle.ig_text.proofs.Lists.{mapped_at}
use Rattle.ig_forest_tables.specs.Forest as forest
use Rattle.ig_forest_tables.specs.Forest.{Forest, ItemNode}
use Rattle.ig_forest_tables.specs.Unfold.{noted, OfNode, OfItem, Unfold}
use Rattle.ig_forest_tables.specs.Unfold as trees
use Rattle.ig_forest_tables.specs.declared.entry.Choice.{Choice}
use Rattle.ig_forest_tables.specs.declared.entry.Entry.{Entry}
use Rattle.ig_forest_tables.specs.declared.entry.Entry.TheVariants.{Begin, Pass, Take}
use Rattle.ig_forest_tables.specs.declared.entry.Child.TheVariants as child
use Rattle.ig_walker.specs.Walks.{Walk, Leads, cursor, Before, Opens, Passed, Least, Next, Last}
use Rattle.ig_walker.specs.Walks as w
use Rattle.ig_heights.specs.Table.{choices_in, entries_in}
use Rattle.ig_walker.specs.Options.{behind_choice, behind_entry, options}
use Rattle.ig_forest.specs.Flat.{count, flat, flats}
use Rattle.ig_walker.specs.Written.{bumped, bump_last, by_entry, by_choice, opened, written, emits}
use Rattle.ig_forest.specs.declared.tree.Part.{Part}
use Rattle.ig_walker.specs.declared.goal.Goal.{Goal}
use Rattle.ig_walker.specs.declared.goal.Goal.TheVariants.{Node, Item, Leaf}
use Rattle.ig_walker.specs.declared.goal.Visit.{Visit}
use Rattle.ig_walker.proofs.Walking.{at, joined}

bumped_none : (q : Part) → bumped 0 q ≡ q
bumped_none q = let e : q.children + 0 ≡ q.children = omega arith in ap (λ (n : ℕ). record { tag = q.tag; span = q.span; children = n }) e

bumped_twice : (m n : ℕ) (q : Part) → bumped m (bumped n q) ≡ bumped (n + m) q
bumped_twice m n q =
    let e : q.children + n + m ≡ q.children + (n + m) = omega arith in
    ap (λ (n : ℕ). record { tag = q.tag; span = q.span; children = n }) e

pub bump_last_at : (ps : List Part) (q : Part) → bump_last (ps ++ q ∷ []) ≡ ps ++ bumped 1 q ∷ []
bump_last_at [] q = refl
bump_last_at (p ∷ []) q = refl
bump_last_at (p ∷ r ∷ ps) q = ap (λ (z : List Part). p ∷ z) (bump_last_at (r ∷ ps) q)

count_join : (ts us : Trees) → count (join ts us) ≡ count ts + count us
count_join none us = omega arith
count_join (more t ts) us = let h = count_join ts us in omega (arith, h)

flats_join : (ts us : Trees) → flats (join ts us) ≡ flats ts ++ flats us
flats_join none us = refl
flats_join (more t ts) us = ap (λ (z : List Part). flat t ++ z) (flats_join ts us) ∙ sym (append_assoc (flat t) (flats ts) (flats us))

-- the parts of one more child
more_parts : (ps : List Part) (q : Part) (ts : Trees) (t : Tree) →
    ((ps ++ bumped (count ts) (bumped 1 q) ∷ []) ++ flats ts) ++ flat t ≡
    (ps ++ bumped (count (join ts (one t))) q ∷ []) ++ flats (join ts (one t))
more_parts ps q ts t =
    let n : 1 + count ts ≡ count (join ts (one t)) = let h = count_join ts (one t) in omega (arith, h) in
    append_assoc (ps ++ bumped (count ts) (bumped 1 q) ∷ []) (flats ts) (flat t)
    ∙ ap₂ (λ (a : Part) (b : List Part). (ps ++ a ∷ []) ++ b) (bumped_twice (count ts) 1 q ∙ ap (λ (m : ℕ). bumped m q) n)
    (sym (flats_join ts (one t) ∙ ap (λ (z : List Part). flats ts ++ z) (append-nil (flat t))))

module _ (f : Forest) where
  abbrev opts : Goal → List (List Goal)
  opts = options f

  abbrev Visits : Type 0
  Visits = List Visit

  emits_join : (ps : List Part) (vs ws : Visits) → emits f ps (vs ++ ws) ≡ emits f (emits f ps vs) ws
  emits_join ps [] ws = refl
  emits_join ps (v ∷ vs) ws = emits_join (written f v.goal v.choice ps) vs ws

  pub cursor_join : (vs ws : Visits) → cursor opts (vs ++ ws) ≡ cursor opts vs ++ cursor opts ws
  cursor_join [] ws = refl
  cursor_join (v ∷ vs) ws =
      ap (λ (z : List ℕ). noted (length (opts v.goal)) v.choice ++ z) (cursor_join vs ws)
      ∙ sym (append_assoc (noted (length (opts v.goal)) v.choice) (cursor opts vs) (cursor opts ws))

  pub record NodeWalk (v d : ℕ) (cs : List ℕ) (t : Tree) : Type 0 where
    pub vs : Visits
    pub walk : Walk opts (Node v d ∷ []) vs
    pub told : cursor opts vs ≡ cs
    pub writes : (ps : List Part) → emits f ps vs ≡ ps ++ flat t

  pub record ItemWalk (k d : ℕ) (cs : List ℕ) (ts : Trees) : Type 0 where
    pub vs : Visits
    pub walk : Walk opts (Item k d ∷ []) vs
    pub told : cursor opts vs ≡ cs
    pub writes : (ps : List Part) (q : Part) → emits f (ps ++ q ∷ []) vs ≡ (ps ++ bumped (count ts) q ∷ []) ++ flats ts

  entry_here : (k i : ℕ) (it : ItemNode) (e : Entry) → slice_get f.items k ≡ Some it → slice_get it.entries i ≡ Some e →
      slice_get (entries_in (slice_get f.items k)) i ≡ Some e
  entry_here k i it e has at = ap (λ (z : Option ItemNode). slice_get (entries_in z) i) has ∙ at

  -- the number of options of an item
  pub entries_many : (k d : ℕ) (it : ItemNode) → slice_get f.items k ≡ Some it → length (opts (Item k d)) ≡ length it.entries
  entries_many k d it has =
      length-map (entries_in (slice_get f.items k)) (behind_entry d)
      ∙ ap (λ (z : Option ItemNode). length (entries_in z)) has

  pub alternatives_many : (v d : ℕ) (node : forest.Node) → slice_get f.nodes v ≡ Some node →
      length (opts (Node v (suc d))) ≡ length node.alternatives
  alternatives_many v d node has =
      length-map (choices_in (slice_get f.nodes v)) (behind_choice d)
      ∙ ap (λ (z : Option forest.Node). length (choices_in z)) has

  -- a visit of an item by an entry, and what is behind it
  by_item : (k d i : ℕ) (it : ItemNode) (e : Entry) (vs : Visits) (bs cs : List ℕ) → slice_get f.items k ≡ Some it →
      slice_get it.entries i ≡ Some e → Walk opts (behind_entry d e) vs → cursor opts vs ≡ bs →
      cs ≡ noted (length it.entries) i ++ bs →
      Walk opts (Item k d ∷ []) (record { goal = Item k d; choice = i } ∷ vs) × (cursor opts (record { goal = Item k d; choice = i } ∷ vs) ≡ cs)
  by_item k d i it e vs bs cs has at walk told is = (
    w.step (Item k d) [] (behind_entry d e) i vs
        (mapped_at (behind_entry d) (entries_in (slice_get f.items k)) i e (entry_here k i it e has at))
        (subst (λ (z : List Goal). Walk opts z vs) (sym (append-nil (behind_entry d e))) walk),
    ap₂ (λ (n : ℕ) (z : List ℕ). noted n i ++ z) (entries_many k d it has) told ∙ sym is,
  )

  mutual
    pub node_walk : {v d : ℕ} {cs : List ℕ} {t : Tree} → OfNode f v d cs t → NodeWalk v d cs t
    node_walk (trees.choose v d i node choice bs cs ts t has at item is whole) =
        let h = item_walk item in
        let here : slice_get (choices_in (slice_get f.nodes v)) i ≡ Some choice =
        ap (λ (z : Option forest.Node). slice_get (choices_in z) i) has ∙ at in
        record {
          vs = record { goal = Node v (suc d); choice = i } ∷ h.vs;
          walk =
              w.step (Node v (suc d)) [] (behind_choice d choice) i h.vs
              (mapped_at (behind_choice d) (choices_in (slice_get f.nodes v)) i choice here) h.walk;
          told = ap₂ (λ (n : ℕ) (z : List ℕ). noted n i ++ z) (alternatives_many v d node has) h.told ∙ sym is;
          writes = λ ps.
              ap (λ (z : Option forest.Node). emits f (by_choice z i ps) h.vs) has
              ∙ ap (λ (z : Option Choice). emits f (opened node.span z ps) h.vs) at
              ∙ h.writes ps (record { tag = Some choice.tag; span = node.span; children = 0 })
              ∙ append_assoc ps (record { tag = Some choice.tag; span = node.span; children = 0 + count ts } ∷ []) (flats ts)
              ∙ ap (λ (n : ℕ). ps ++ (record { tag = Some choice.tag; span = node.span; children = n } ∷ flats ts)) (omega arith)
              ∙ ap (λ (z : Tree). ps ++ flat z) (sym whole);
        }

    pub item_walk : {k d : ℕ} {cs : List ℕ} {ts : Trees} → OfItem f k d cs ts → ItemWalk k d cs ts
    item_walk (trees.begin k d i it cs has at is) =
        let h = by_item k d i it Begin [] [] cs has at w.done refl (is ∙ sym (append-nil (noted (length it.entries) i))) in
        record {
          vs = record { goal = Item k d; choice = i } ∷ [];
          walk = h.0;
          told = h.1;
          writes = λ ps q.
              ap (λ (z : Option Entry). by_entry z (ps ++ q ∷ [])) (entry_here k i it Begin has at)
              ∙ ap (λ (z : Part). ps ++ z ∷ []) (sym (bumped_none q)) ∙ sym (append-nil (ps ++ bumped 0 q ∷ []));
        }
    item_walk (trees.pass k d i prev it bs cs ts has at item is) =
        let r = item_walk item in
        let h = by_item k d i it (Pass prev) r.vs bs cs has at r.walk r.told is in
        record {
          vs = record { goal = Item k d; choice = i } ∷ r.vs;
          walk = h.0;
          told = h.1;
          writes = λ ps q.
              ap (λ (z : Option Entry). emits f (by_entry z (ps ++ q ∷ [])) r.vs) (entry_here k i it (Pass prev) has at) ∙ r.writes ps q;
        }
    item_walk (trees.leaf k d i prev it span bs cs ts us has at item is whole) =
        let r = item_walk item in
        let last : Visit = record { goal = Leaf span; choice = 0 } in
        let one_more : Walk opts (Leaf span ∷ []) (last ∷ []) = w.step (Leaf span) [] [] 0 [] refl w.done in
        let h = by_item k d i it (Take prev (child.Leaf span)) (r.vs ++ last ∷ []) bs cs has at
        (joined opts r.walk (Leaf span ∷ []) (last ∷ []) one_more)
        (cursor_join r.vs (last ∷ []) ∙ append-nil (cursor opts r.vs) ∙ r.told) is in
        record {
          vs = record { goal = Item k d; choice = i } ∷ (r.vs ++ last ∷ []);
          walk = h.0;
          told = h.1;
          writes = λ ps q.
              ap (λ (z : Option Entry). emits f (by_entry z (ps ++ q ∷ [])) (r.vs ++ last ∷ [])) (entry_here k i it (Take prev (child.Leaf span)) has at)
              ∙ ap (λ (z : List Part). emits f z (r.vs ++ last ∷ [])) (bump_last_at ps q)
              ∙ emits_join (ps ++ bumped 1 q ∷ []) r.vs (last ∷ [])
              ∙ ap (λ (z : List Part). emits f z (last ∷ [])) (r.writes ps (bumped 1 q))
              ∙ more_parts ps q ts (shape.Leaf span.begin span.end)
              ∙ ap (λ (z : Trees). (ps ++ bumped (count z) q ∷ []) ++ flats z) (sym whole);
        }
    item_walk (trees.node k d i prev v it as_before bs cs ts us t has at item tree is whole) =
        let r = item_walk item in
        let s = node_walk tree in
        let h = by_item k d i it (Take prev (child.Node v)) (r.vs ++ s.vs) (as_before ++ bs) cs has at
        (joined opts r.walk (Node v d ∷ []) s.vs s.walk)
        (cursor_join r.vs s.vs ∙ ap₂ (λ (x y : List ℕ). x ++ y) r.told s.told) is in
        record {
          vs = record { goal = Item k d; choice = i } ∷ (r.vs ++ s.vs);
          walk = h.0;
          told = h.1;
          writes = λ ps q.
              ap (λ (z : Option Entry). emits f (by_entry z (ps ++ q ∷ [])) (r.vs ++ s.vs)) (entry_here k i it (Take prev (child.Node v)) has at)
              ∙ ap (λ (z : List Part). emits f z (r.vs ++ s.vs)) (bump_last_at ps q)
              ∙ emits_join (ps ++ bumped 1 q ∷ []) r.vs s.vs
              ∙ ap (λ (z : List Part). emits f z s.vs) (r.writes ps (bumped 1 q))
              ∙ s.writes ((ps ++ bumped (count ts) (bumped 1 q) ∷ []) ++ flats ts)
              ∙ more_parts ps q ts t
              ∙ ap (λ (z : Trees). (ps ++ bumped (count z) q ∷ []) ++ flats z) (sym whole);
        }
