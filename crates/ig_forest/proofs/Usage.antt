-- No part of the reduced forest is dead.
use Rattle.std.proofs.Common.{◌≡◌, ◌⊎◌, inl, inr, ℕ, zero, suc, ◌+◌, ◌<◌, ◌++◌, List, Some, length, slice_get, refl, sym, ap, ◌∙◌, subst, arith}
use Rattle.std.proofs.lemmas.Option.{same_Some, slice_get_within}
use Rattle.ig_text.specs.Input.{Input}
use Rattle.ig_text.specs.Tree.{Tree, Trees, Leaf, Node, none, one, join, greatest_height}
use Rattle.ig_text.proofs.Lists.{at_from_contains, contains_from_at, get_within}
use Rattle.ig_text.proofs.Pairwise.{key_at}
use Rattle.ig_text.proofs.Rising.{one_place}
use Rattle.ig_item.specs.Items.{Item, IsComplete, StandsBefore}
use Rattle.ig_item.specs.Step.{Step, Test, Bind, Term, Call}
use Rattle.ig_item.specs.declared.core_grammar.Nonterminal.{Nonterminal}
use Rattle.ig_item.specs.declared.core_grammar.CoreAlt.{CoreAlt}
use Rattle.ig_forest_tables.specs.Forest as forest
use Rattle.ig_forest_tables.specs.Forest.{Forest, ItemNode}
use Rattle.ig_forest_tables.specs.Unfold as ways
use Rattle.ig_forest_tables.specs.Unfold.{OfNode, OfItem, Part, TheNode, TheAlternative, TheEntry, node_uses, item_uses, noted, IsUsed, HasNoDeadPart}
use Rattle.ig_item.specs.Gives as rules
use Rattle.ig_forest_live.specs.Live as live
use Rattle.ig_item.specs.Gives.{NodeKey, Taken}
use Rattle.ig_forest_live.specs.Live.{Gives, IsLive}
use Rattle.ig_forest_tables.specs.Orders.{item_cmp, node_cmp}
use Rattle.ig_forest.specs.Reduced as reduced
use Rattle.ig_forest.specs.Reduced.{IsReduced, IsEntry}
use Rattle.ig_forest_live.specs.Live.{root_key}
use Rattle.ig_forest.specs.Laws.{ReducedIsTrim, TrimHasTrees}
use Rattle.ig_forest_tables.specs.declared.entry.Entry.{Entry}
use Rattle.ig_forest_tables.specs.declared.entry.Entry.TheVariants.{Begin, Pass, Take}
use Rattle.ig_forest_tables.specs.declared.entry.Child.TheVariants as child
use Rattle.ig_forest.proofs.Given.{Given}
use Rattle.ig_forest.proofs.TotalOrders.{item_total, node_total}
use Rattle.ig_forest.proofs.Liveness.{live_is_reachable}
use Rattle.ig_forest.proofs.Unfolding.{Unfolded, by_pass, by_leaf, by_tree, chosen, item_unfolds, nodes_unfold, live_at}
use Rattle.ig_forest.proofs.Trim.{is_forest, onward_items}

keep : {A B C : Type 0} → (B → C) → A ⊎ B → A ⊎ C
keep h (inl a) = inl a
keep h (inr b) = inr (h b)

both : {A B C D : Type 0} → (A → C) → (B → D) → A ⊎ B → C ⊎ D
both g h (inl a) = inl (g a)
both g h (inr b) = inr (h b)

module _ (f : Forest) where
  -- what is unfolded to a depth is unfolded to the next one, with the same parts
  abbrev mutual
    raise_node : {v d : ℕ} {cs : List ℕ} {t : Tree} → OfNode f v d cs t → OfNode f v (suc d) cs t
    raise_node (ways.choose v d i n choice bs cs ts t at among of_item c is) =
        ways.choose v (suc d) i n choice bs cs ts t at among (raise_item of_item) c is

    raise_item : {k d : ℕ} {cs : List ℕ} {ts : Trees} → OfItem f k d cs ts → OfItem f k (suc d) cs ts
    raise_item (ways.begin k d i it cs at among c) = ways.begin k (suc d) i it cs at among c
    raise_item (ways.pass k d i prev it bs cs ts at among of_prev c) =
        ways.pass k (suc d) i prev it bs cs ts at among (raise_item of_prev) c
    raise_item (ways.leaf k d i prev it span bs cs ts us at among of_prev c is) =
        ways.leaf k (suc d) i prev it span bs cs ts us at among (raise_item of_prev) c is
    raise_item (ways.node k d i prev v it ps bs cs ts us t at among of_prev of_node c is) =
        ways.node k (suc d) i prev v it ps bs cs ts us t at among (raise_item of_prev) (raise_node of_node) c is

  mutual
    node_keeps : {v d : ℕ} {cs : List ℕ} {t : Tree} (o : OfNode f v d cs t) (part : Part) → node_uses f o part →
        node_uses f (raise_node o) part
    node_keeps (ways.choose v d i n choice bs cs ts t at among of_item c is) part u =
        keep (keep (item_keeps of_item part)) u

    item_keeps : {k d : ℕ} {cs : List ℕ} {ts : Trees} (o : OfItem f k d cs ts) (part : Part) → item_uses f o part →
        item_uses f (raise_item o) part
    item_keeps (ways.begin k d i it cs at among c) part u = u
    item_keeps (ways.pass k d i prev it bs cs ts at among of_prev c) part u = keep (item_keeps of_prev part) u
    item_keeps (ways.leaf k d i prev it span bs cs ts us at among of_prev c is) part u = keep (item_keeps of_prev part) u
    item_keeps (ways.node k d i prev v it ps bs cs ts us t at among of_prev of_node c is) part u =
        keep (both (item_keeps of_prev part) (node_keeps of_node part)) u

  record NodeRaised {v d : ℕ} {cs : List ℕ} {t : Tree} (o : OfNode f v d cs t) (e : ℕ) : Type 0 where
    to : OfNode f v e cs t
    keeps : (part : Part) → node_uses f o part → node_uses f to part

  record ItemRaised {k d : ℕ} {cs : List ℕ} {ts : Trees} (o : OfItem f k d cs ts) (e : ℕ) : Type 0 where
    to : OfItem f k e cs ts
    keeps : (part : Part) → item_uses f o part → item_uses f to part

  -- so many depths more
  abbrev deeper : ℕ → ℕ → ℕ
  deeper zero d = d
  deeper (suc n) d = suc (deeper n d)

  deeper_sum : (n d : ℕ) → deeper n d ≡ n + d
  deeper_sum zero d = omega arith
  deeper_sum (suc n) d = let h = deeper_sum n d in omega arith

  node_raised : {v d : ℕ} {cs : List ℕ} {t : Tree} (n : ℕ) (o : OfNode f v d cs t) → NodeRaised o (deeper n d)
  node_raised zero o = record { to = o; keeps = λ part u. u }
  node_raised (suc n) o =
      let r = node_raised n o in
      record { to = raise_node r.to; keeps = λ part u. node_keeps r.to part (r.keeps part u) }

  item_raised : {k d : ℕ} {cs : List ℕ} {ts : Trees} (n : ℕ) (o : OfItem f k d cs ts) → ItemRaised o (deeper n d)
  item_raised zero o = record { to = o; keeps = λ part u. u }
  item_raised (suc n) o =
      let r = item_raised n o in
      record { to = raise_item r.to; keeps = λ part u. item_keeps r.to part (r.keeps part u) }

  -- each to the depth of both
  node_beside : {v d : ℕ} {cs : List ℕ} {t : Tree} (n : ℕ) (o : OfNode f v d cs t) → NodeRaised o (d + n)
  node_beside {d = d} n o =
      let same : deeper n d ≡ d + n = omega (arith, deeper_sum n d) in subst (λ (e : ℕ). NodeRaised o e) same (node_raised n o)

  item_beside : {k d : ℕ} {cs : List ℕ} {ts : Trees} (n : ℕ) (o : OfItem f k d cs ts) → ItemRaised o (n + d)
  item_beside {d = d} n o = subst (λ (e : ℕ). ItemRaised o e) (deeper_sum n d) (item_raised n o)

  -- a tree of the root that uses all these parts
  record InTree (uses : Part → Type 0) : Type 0 where
    depth : ℕ
    cursor : List ℕ
    tree : Tree
    unfolds : OfNode f f.root depth cursor tree
    keeps : (part : Part) → uses part → node_uses f unfolds part

  weaken : {few many : Part → Type 0} → ((part : Part) → few part → many part) → InTree many → InTree few
  weaken h t =
      record {
        depth = t.depth;
        cursor = t.cursor;
        tree = t.tree;
        unfolds = t.unfolds;
        keeps = λ part u. t.keeps part (h part u);
      }

  itself : {d : ℕ} {cs : List ℕ} {t : Tree} (o : OfNode f f.root d cs t) → InTree (node_uses f o)
  itself {d = d} {cs = cs} {t = t} o =
      record { depth = d; cursor = cs; tree = t; unfolds = o; keeps = λ part u. u }

  abbrev InTrees : ℕ → Type 0
  InTrees v = (d : ℕ) (cs : List ℕ) (t : Tree) (o : OfNode f v d cs t) → InTree (node_uses f o)

  at_root : (v : ℕ) → f.root ≡ v → InTrees v
  at_root v same = subst InTrees same (λ d cs t o. itself o)

  used : {uses : Part → Type 0} → InTree uses → (part : Part) → uses part → IsUsed f part
  used t part u =
      record { depth = t.depth; cursor = t.cursor; tree = t.tree; unfolds = t.unfolds; uses = t.keeps part u }

module _ (f : Forest) where
  -- an item node that unfolds has an entry
  more_than : (it other : ItemNode) (i : ℕ) (e : Entry) → it ≡ other → slice_get it.entries i ≡ Some e → 0 < length other.entries
  more_than it other i e same at =
      let within = slice_get_within it.entries i e at in omega (arith, within, ap (λ (z : ItemNode). length z.entries) same)

  same_node_at : (k : ℕ) (it other : ItemNode) → slice_get f.items k ≡ Some it → slice_get f.items k ≡ Some other → it ≡ other
  same_node_at k it other at beside = same_Some it other (sym at ∙ beside)

  some_entry : {k d : ℕ} {cs : List ℕ} {ts : Trees} → OfItem f k d cs ts → (it : ItemNode) → slice_get f.items k ≡ Some it →
      0 < length it.entries
  some_entry (ways.begin k d i it cs at among c) other beside =
      more_than it other i Begin (same_node_at k it other at beside) among
  some_entry (ways.pass k d i prev it bs cs ts at among of_prev c) other beside =
      more_than it other i (Pass prev) (same_node_at k it other at beside) among
  some_entry (ways.leaf k d i prev it span bs cs ts us at among of_prev c is) other beside =
      more_than it other i (Take prev (child.Leaf span)) (same_node_at k it other at beside) among
  some_entry (ways.node k d i prev v it ps bs cs ts us t at among of_prev of_node c is) other beside =
      more_than it other i (Take prev (child.Node v)) (same_node_at k it other at beside) among

  -- what a used part unfolds to
  abbrev Found : Part → Type 0
  Found (TheNode v) = (d : ℕ) × (cs : List ℕ) × (t : Tree) × OfNode f v d cs t
  Found (TheAlternative v i) = (d : ℕ) × (cs : List ℕ) × (t : Tree) × OfNode f v d cs t
  Found (TheEntry k i) = (d : ℕ) × (cs : List ℕ) × (ts : Trees) × OfItem f k d cs ts

  mutual
    node_found : {v d : ℕ} {cs : List ℕ} {t : Tree} (o : OfNode f v d cs t) (part : Part) → node_uses f o part → Found part
    node_found (ways.choose v d i n choice bs cs ts t at among of_item c is) part (inl e) =
        subst Found (sym e) (suc d, cs, t, ways.choose v d i n choice bs cs ts t at among of_item c is)
    node_found (ways.choose v d i n choice bs cs ts t at among of_item c is) part (inr (inl e)) =
        subst Found (sym e) (suc d, cs, t, ways.choose v d i n choice bs cs ts t at among of_item c is)
    node_found (ways.choose v d i n choice bs cs ts t at among of_item c is) part (inr (inr u)) = item_found of_item part u

    item_found : {k d : ℕ} {cs : List ℕ} {ts : Trees} (o : OfItem f k d cs ts) (part : Part) → item_uses f o part → Found part
    item_found (ways.begin k d i it cs at among c) part e = subst Found (sym e) (d, cs, none, ways.begin k d i it cs at among c)
    item_found (ways.pass k d i prev it bs cs ts at among of_prev c) part (inl e) =
        subst Found (sym e) (d, cs, ts, ways.pass k d i prev it bs cs ts at among of_prev c)
    item_found (ways.pass k d i prev it bs cs ts at among of_prev c) part (inr u) = item_found of_prev part u
    item_found (ways.leaf k d i prev it span bs cs ts us at among of_prev c is) part (inl e) =
        subst Found (sym e) (d, cs, us, ways.leaf k d i prev it span bs cs ts us at among of_prev c is)
    item_found (ways.leaf k d i prev it span bs cs ts us at among of_prev c is) part (inr u) = item_found of_prev part u
    item_found (ways.node k d i prev v it ps bs cs ts us t at among of_prev of_node c is) part (inl e) =
        subst Found (sym e) (d, cs, us, ways.node k d i prev v it ps bs cs ts us t at among of_prev of_node c is)
    item_found (ways.node k d i prev v it ps bs cs ts us t at among of_prev of_node c is) part (inr (inl u)) =
        item_found of_prev part u
    item_found (ways.node k d i prev v it ps bs cs ts us t at among of_prev of_node c is) part (inr (inr u)) =
        node_found of_node part u

pub trim_has_trees : TrimHasTrees
trim_has_trees f alive =
    record {
      nodes = λ v within. let u = alive.nodes v within in node_found f u.unfolds (TheNode v) u.uses;
      items =
          λ k within.
          let it = get_within f.items k within in
          let u = alive.entries k 0 it.0 it.1 (alive.items k it.0 it.1) in
          node_found f u.unfolds (TheEntry k 0) u.uses;
    }

module _ (core : List Nonterminal) (text : Input) where
  -- a rule gives an item from one that stands before a step
  before_step : {prev x : Item} {taken : Taken} → Gives core text prev taken x →
      (step : Step) × ((names : List (List ℕ)) × StandsBefore core prev names step)
  before_step (rules.test prev names e x reachable before holds is) = (Test e, (names, before))
  before_step (rules.bind prev names name e v x reachable before has is) = (Bind name e, (names, before))
  before_step (rules.terminal prev names what label excluded j taken x reachable before matches free t is) =
      (Term what label excluded, (names, before))
  before_step (rules.return prev done label excluded key x reachable reach calls c free is) =
      (Call key.instance.nonterminal calls.arguments label excluded, (calls.names, calls.before))

module _ (given : Given) (core : List Nonterminal) (text : Input) (f : Forest) (r : IsReduced core text f) where
  -- each live item has trees, and so has each node
  record Somehow (x : Item) : Type 0 where
    depth : ℕ
    trees : Trees
    unfolded : Unfolded given core text f r x depth trees

  live_unfolds : (x : Item) → IsLive core text x → Somehow x
  live_unfolds x l =
      let c = (given.items_by_trees core text x).0 (live_is_reachable core text x l) in
      let d = greatest_height c.1 in
      record {
        depth = d;
        trees = c.1;
        unfolded = item_unfolds given core text f r d (nodes_unfold given core text f r d) c.2 l (omega arith);
      }

  record SomeTree (v : ℕ) : Type 0 where
    depth : ℕ
    cursor : List ℕ
    tree : Tree
    of_node : OfNode f v depth cursor tree

  -- the tree of a complete item, over what it unfolds to
  abbrev completed : (x : Item) (key : NodeKey) (d : ℕ) (ts : Trees) (c : rules.Completes core x key) →
      Unfolded given core text f r x d ts → (v : ℕ) → slice_get r.keys v ≡ Some key →
      (cs : List ℕ) × OfNode f v (suc d) cs (Node c.complete.alternative.tag key.instance.start key.end ts)
  completed x key d ts c u v at =
      chosen given core text f r x key d ts (Node c.complete.alternative.tag key.instance.start key.end ts) c refl u v at

  some_tree : (x : Item) (key : NodeKey) → IsLive core text x → rules.Completes core x key → (v : ℕ) →
      slice_get r.keys v ≡ Some key → SomeTree v
  some_tree x key l c v at =
      let s = live_unfolds x l in
      let n = completed x key s.depth s.trees c s.unfolded v at in
      record { depth = suc s.depth; cursor = n.0; tree = Node c.complete.alternative.tag key.instance.start key.end s.trees; of_node = n.1 }

  -- the item unfolds, with all these parts
  record Through (x : Item) (uses : Part → Type 0) : Type 0 where
    depth : ℕ
    trees : Trees
    unfolded : Unfolded given core text f r x depth trees
    keeps : (part : Part) → uses part → item_uses f unfolded.unfolds part

  key_number : (key : NodeKey) (x : Item) → IsLive core text x → rules.Completes core x key →
      (v : ℕ) × (slice_get r.keys v ≡ Some key)
  key_number key x l c =
      at_from_contains r.keys key ((r.are_nodes.members key).1 (x, (r.are_items.members x).1 l, c))

  -- behind a previous item and a tree, with all parts of both
  behind_both : (prev x : Item) (key : NodeKey) (d e v : ℕ) (cs : List ℕ) (ts : Trees) (t : Tree) → IsLive core text x →
      Gives core text prev (rules.tree key) x → slice_get r.keys v ≡ Some key → (u : Unfolded given core text f r prev d ts) →
      (o : OfNode f v e cs t) → Through x (λ part. item_uses f u.unfolds part ⊎ node_uses f o part)
  behind_both prev x key d e v cs ts t l gives at u o =
      let i = item_beside f e u.unfolds in
      let n = node_beside f d o in
      let low : Unfolded given core text f r prev (e + d) ts =
      record { number = u.number; cursor = u.cursor; at = u.at; unfolds = i.to } in
      record {
        depth = e + d;
        trees = join ts (one t);
        unfolded = by_tree given core text f r prev x (e + d) ts key t v cs low l gives at n.to;
        keeps = λ part h. inr (both (i.keeps part) (n.keeps part) h);
      }

  -- a rule that returned did so with a live item
  record Returned (key : NodeKey) : Type 0 where
    done : Item
    alive : IsLive core text done
    completes : rules.Completes core done key

  returned : {prev x : Item} {taken : Taken} → Gives core text prev taken x → IsLive core text x → (key : NodeKey) →
      taken ≡ rules.tree key → Returned key
  returned (rules.test prev names e x reachable before holds is) l key h = cc
  returned (rules.bind prev names name e v x reachable before has is) l key h = cc
  returned (rules.terminal prev names what label excluded j taken x reachable before matches free t is) l key h = cc
  returned (rules.return prev done label excluded own x reachable reach calls c free is) l key h =
      let same : own ≡ key = cc in
      record {
        done = done;
        alive = live.child x prev done own l (rules.return prev done label excluded own x reachable reach calls c free is) reach c;
        completes = subst (λ (k : NodeKey). rules.Completes core done k) same c;
      }

  through : (prev x : Item) (taken : Taken) → IsLive core text x → Gives core text prev taken x → (d : ℕ) (ts : Trees)
      (u : Unfolded given core text f r prev d ts) → Through x (item_uses f u.unfolds)
  through prev x rules.nothing l gives d ts u =
      record {
        depth = d;
        trees = ts;
        unfolded = by_pass given core text f r prev x d ts u l gives;
        keeps = λ part h. inr h;
      }
  through prev x (rules.leaf span) l gives d ts u =
      record {
        depth = d;
        trees = join ts (one (Leaf span.begin span.end));
        unfolded = by_leaf given core text f r prev x d ts span u l gives;
        keeps = λ part h. inr h;
      }
  through prev x (rules.tree key) l gives d ts u =
      let m = returned gives l key refl in
      let v = key_number key m.done m.alive m.completes in
      let s = some_tree m.done key m.alive m.completes v.0 v.1 in
      let b = behind_both prev x key d s.depth v.0 s.cursor ts s.tree l gives v.1 u s.of_node in
      record { depth = b.depth; trees = b.trees; unfolded = b.unfolded; keeps = λ part h. b.keeps part (inl h) }

  -- whatever a live item unfolds to, some tree of the root uses its parts
  item_context : {x : Item} → IsLive core text x → (d : ℕ) (ts : Trees) (u : Unfolded given core text f r x d ts) →
      InTree f (item_uses f u.unfolds)
  item_context (live.root x reachable root end) d ts u =
      let c : rules.Completes core x (root_key text) =
      record { complete = root.complete; instance = root.of_root; end = end } in
      let n = completed x (root_key text) d ts c u f.root r.root in
      weaken f {many = node_uses f n.1} (λ part h. inr (inr h)) (itself f n.1)
  item_context (live.previous x prev taken l gives) d ts u =
      let b = through prev x taken l gives d ts u in
      weaken f {many = item_uses f b.unfolded.unfolds} b.keeps (item_context l b.depth b.trees b.unfolded)
  item_context (live.child x prev done key l gives reachable c) d ts u =
      let v = key_number key done (live.child x prev done key l gives reachable c) c in
      let n = completed done key d ts c u v.0 v.1 in
      let s = live_unfolds prev (live.previous x prev (rules.tree key) l gives) in
      let b = behind_both prev x key s.depth (suc d) v.0 n.0 s.trees _ l gives v.1 s.unfolded n.1 in
      weaken f {many = item_uses f b.unfolded.unfolds} (λ part h. b.keeps part (inr (inr (inr h))))
      (item_context l b.depth b.trees b.unfolded)

  -- a complete item stands before no step
  never_before : {prev x : Item} {taken : Taken} → IsComplete core prev → Gives core text prev taken x → ⊥
  never_before {prev = prev} c gives =
      let b = before_step core text gives in
      let same = given.alternatives_one core prev.instance.nonterminal prev.alternative c.nonterminal b.1.1.nonterminal
      c.alternative b.1.1.alternative c.has b.1.1.has in
      let within = slice_get_within b.1.1.alternative.steps prev.dot b.0 b.1.1.next in
      omega (arith, within, c.last, ap (λ (a : CoreAlt). length a.steps) same.alternatives)

  -- whatever a node unfolds to, some tree of the root uses its parts
  node_context : (x : Item) → IsLive core text x → (key : NodeKey) → rules.Completes core x key → (v : ℕ) →
      slice_get r.keys v ≡ Some key → InTrees f v
  node_context _ (live.root x reachable root end) key c v at =
      let same : root_key text ≡ key =
      λ i. record { instance = (sym root.of_root ∙ c.instance) i; end = (sym end ∙ c.end) i } in
      at_root f v
      (one_place node_cmp node_total r.keys f.root v key r.are_nodes.order
      (subst (λ (k : NodeKey). slice_get r.keys f.root ≡ Some k) same r.root) at)
  node_context _ (live.previous x prev taken l gives) key c v at = absurd (never_before c.complete gives)
  node_context _ (live.child x prev done own l gives reachable other) key c v at =
      let same : own ≡ key =
      λ i. record { instance = (sym other.instance ∙ c.instance) i; end = (sym other.end ∙ c.end) i } in
      let gives_key = subst (λ (k : NodeKey). Gives core text prev (rules.tree k) x) same gives in
      λ d cs t o.
      let s = live_unfolds prev (live.previous x prev (rules.tree own) l gives) in
      let b = behind_both prev x key s.depth d v cs s.trees t l gives_key at s.unfolded o in
      weaken f {many = item_uses f b.unfolded.unfolds} (λ part h. b.keeps part (inr h))
      (item_context l b.depth b.trees b.unfolded)

  node_used : (v : ℕ) → v < length f.nodes → IsUsed f (TheNode v)
  node_used v within =
      let n = get_within f.nodes v within in
      let key = key_at r.nodes v n.0 n.1 in
      let x = (r.are_nodes.members key.0).0 (contains_from_at r.keys v key.0 key.1) in
      let l = (r.are_items.members x.0).0 x.1 in
      let s = live_unfolds x.0 l in
      let o = completed x.0 key.0 s.depth s.trees x.2 s.unfolded v key.1 in
      used f {uses = node_uses f {cs = o.0} o.1} (node_context x.0 l key.0 x.2 v key.1 (suc s.depth) o.0 _ o.1) (TheNode v) (inl refl)

  -- an item of the forest unfolds at its number
  unfolds_at : (k : ℕ) (x : Item) → slice_get r.items k ≡ Some x → (d : ℕ) × (cs : List ℕ) × (ts : Trees) × OfItem f k d cs ts
  unfolds_at k x at =
      let s = live_unfolds x (live_at given core text f r k x at) in
      let same = one_place item_cmp item_total r.items s.unfolded.number k x r.are_items.order s.unfolded.at at in
      (s.depth, s.unfolded.cursor, s.trees, subst (λ (m : ℕ). OfItem f m s.depth s.unfolded.cursor s.trees) same s.unfolded.unfolds)

  alternative_used : (v i : ℕ) (node : forest.Node) → slice_get f.nodes v ≡ Some node → i < length node.alternatives →
      IsUsed f (TheAlternative v i)
  alternative_used v i node at within =
      let choice = get_within node.alternatives i within in
      let key = key_at r.nodes v node at in
      let c = (key.2.choices choice.0).0 (contains_from_at node.alternatives i choice.0 choice.1) in
      let l = live_at given core text f r choice.0.item c.item c.numbered in
      let o = unfolds_at choice.0.item c.item c.numbered in
      let n =
      ways.choose v o.0 i node choice.0 o.1 (noted (length node.alternatives) i ++ o.1) o.2
      (Node choice.0.tag node.span.begin node.span.end o.2) at choice.1 o.3 refl refl in
      used f {uses = node_uses f n} (node_context c.item l key.0 c.completes v key.1 (suc o.0) _ _ n) (TheAlternative v i)
      (inr (inl refl))

  entry_of : (k i : ℕ) (it : ItemNode) (x : Item) (e : Entry) → slice_get f.items k ≡ Some it →
      slice_get it.entries i ≡ Some e → slice_get r.items k ≡ Some x → IsEntry core text r.items r.keys x e →
      IsUsed f (TheEntry k i)
  entry_of k i it x e at at_e has (reduced.begin _ dot is) =
      let cs = noted (length it.entries) i in
      let o = ways.begin k 0 i it cs at (at_e ∙ ap Some is) refl in
      let u : Unfolded given core text f r x 0 none = record { number = k; cursor = cs; at = has; unfolds = o } in
      used f {uses = item_uses f o} (item_context (live_at given core text f r k x has) 0 none u) (TheEntry k i) refl
  entry_of k i it x e at at_e has (reduced.pass p prev _ at_prev gives is) =
      let b = unfolds_at p prev at_prev in
      let cs = noted (length it.entries) i ++ b.1 in
      let o = ways.pass k b.0 i p it b.1 cs b.2 at (at_e ∙ ap Some is) b.3 refl in
      let u : Unfolded given core text f r x b.0 b.2 = record { number = k; cursor = cs; at = has; unfolds = o } in
      used f {uses = item_uses f o} (item_context (live_at given core text f r k x has) b.0 b.2 u) (TheEntry k i) (inl refl)
  entry_of k i it x e at at_e has (reduced.take_leaf p prev span _ at_prev gives is) =
      let b = unfolds_at p prev at_prev in
      let cs = noted (length it.entries) i ++ b.1 in
      let us = join b.2 (one (Leaf span.begin span.end)) in
      let o = ways.leaf k b.0 i p it span b.1 cs b.2 us at (at_e ∙ ap Some is) b.3 refl refl in
      let u : Unfolded given core text f r x b.0 us = record { number = k; cursor = cs; at = has; unfolds = o } in
      used f {uses = item_uses f o} (item_context (live_at given core text f r k x has) b.0 us u) (TheEntry k i) (inl refl)
  entry_of k i it x e at at_e has (reduced.take_node p v prev key _ at_prev at_v gives is) =
      let b = unfolds_at p prev at_prev in
      let l = live_at given core text f r k x has in
      let m = returned gives l key refl in
      let s = some_tree m.done key m.alive m.completes v at_v in
      let low = item_beside f s.depth b.3 in
      let high = node_beside f b.0 s.of_node in
      let d = s.depth + b.0 in
      let cs = noted (length it.entries) i ++ (b.1 ++ s.cursor) in
      let us = join b.2 (one s.tree) in
      let o = ways.node k d i p v it b.1 s.cursor cs b.2 us s.tree at (at_e ∙ ap Some is) low.to high.to refl refl in
      let u : Unfolded given core text f r x d us = record { number = k; cursor = cs; at = has; unfolds = o } in
      used f {uses = item_uses f o} (item_context l d us u) (TheEntry k i) (inl refl)

  has_entry : (k : ℕ) (it : ItemNode) → slice_get f.items k ≡ Some it → 0 < length it.entries
  has_entry k it at = let x = key_at r.item_nodes k it at in some_entry f (unfolds_at k x.0 x.1).3 it at

  no_dead_part : HasNoDeadPart f
  no_dead_part =
      record {
        nodes = node_used;
        alternatives = alternative_used;
        items = has_entry;
        entries =
            λ k i it at within.
            let e = get_within it.entries i within in
            let x = key_at r.item_nodes k it at in
            entry_of k i it x.0 e.0 at e.1 x.1 ((x.2.entries e.0).0 (contains_from_at it.entries i e.0 e.1));
      }

pub is_trim : Given → ReducedIsTrim
is_trim given core text f w r =
    record {
      forest = is_forest given.in_text core text f r;
      alive = no_dead_part given core text f r;
      onward = onward_items given.in_text core text f r;
    }
