-- Heights that the rules of a forest give are the least heights of its trees.
use Rattle.std.proofs.Common.{◌≡◌, inl, inr, ℕ, zero, suc, ◌+◌, ◌<◌, ◌≤◌, max, List, ◌++◌, Some, length, slice_get, Contains, refl, sym, ap, ◌∙◌, arith}
use Rattle.std.proofs.lemmas.Option.{slice_get_within}
use Rattle.ig_text.specs.Tree.{Tree, Trees, Leaf, Node, none, one, join, height, greatest_height}
use Rattle.ig_text.proofs.Lists.{at_from_contains, contains_from_at}
use Rattle.ig_forest_tables.specs.Forest as forest
use Rattle.ig_forest_tables.specs.Forest.{Forest, ItemNode}
use Rattle.ig_forest_tables.specs.Unfold.{noted, OfNode, OfItem, IsTrim, HasTrees}
use Rattle.ig_forest_tables.specs.Unfold as trees
use Rattle.ig_forest_tables.specs.declared.entry.Choice.{Choice}
use Rattle.ig_forest_tables.specs.declared.entry.Entry.{Entry}
use Rattle.ig_forest_tables.specs.declared.entry.Entry.TheVariants.{Begin, Pass, Take}
use Rattle.ig_forest_tables.specs.declared.entry.Child.TheVariants as child
use Rattle.ig_heights.specs.Heights.{IsLeastOfNode, IsLeastOfItem}
use Rattle.ig_heights.specs.Rules.{rise, height_at, need, AreLeast}
use Rattle.ig_heights.specs.Table.{bottom_of, entry_rule, choice_rule, IsRuleOf, IsLeastTable}
use Rattle.ig_heights.specs.Table as table
use Rattle.ig_heights.specs.declared.rule.Rule.{Rule}
use Rattle.ig_heights.specs.declared.rule.Table.{Table}
use Rattle.ig_heights.proofs.Numbers.{rise_low, rise_one, rise_none}
use Rattle.ig_heights.proofs.Depths.{greatest_one, node_low, item_low}

module _ (f : Forest) (t : Table) (rules : IsLeastTable f t) (hs : List ℕ) (least : AreLeast t hs) where
  abbrev of_node : ℕ → ℕ
  of_node v = height_at hs v

  abbrev of_item : ℕ → ℕ
  of_item k = height_at hs (length f.nodes + k)

  -- what the trees by an entry have at least
  abbrev needs : Entry → ℕ
  needs Begin = 0
  needs (Pass prev) = of_item prev
  needs (Take prev (child.Leaf span)) = of_item prev
  needs (Take prev (child.Node v)) = max (of_item prev) (of_node v)

  bottom_none : height_at hs (bottom_of f) ≡ 0
  bottom_none = ap (height_at hs) (sym rules.bottom) ∙ least.bottom

  no_rise : (k : ℕ) → rise t.nodes (length f.nodes + k) ≡ 0
  no_rise k = let n = rules.nodes in rise_none t.nodes (length f.nodes + k) (omega (arith, n))

  entry_among : (k i : ℕ) (it : ItemNode) (e : Entry) → slice_get f.items k ≡ Some it → slice_get it.entries i ≡ Some e →
      Contains t.rules.items (entry_rule (length f.nodes) (bottom_of f) k e)
  entry_among k i it e has among =
      rules.whole _ (table.entry k it e (slice_get_within f.items k it has) has (contains_from_at it.entries i e among) refl)

  entry_needs : (k : ℕ) (e : Entry) → need t.nodes hs (entry_rule (length f.nodes) (bottom_of f) k e) ≡ needs e
  entry_needs k Begin = let g = bottom_none in let r = no_rise k in omega (arith, g, r)
  entry_needs k (Pass prev) = let g = bottom_none in let r = no_rise k in omega (arith, g, r)
  entry_needs k (Take prev (child.Leaf span)) = let g = bottom_none in let r = no_rise k in omega (arith, g, r)
  entry_needs k (Take prev (child.Node v)) = let g = bottom_none in let r = no_rise k in omega (arith, g, r)

  entry_target : (k : ℕ) (e : Entry) → (entry_rule (length f.nodes) (bottom_of f) k e).target ≡ length f.nodes + k
  entry_target k Begin = refl
  entry_target k (Pass prev) = refl
  entry_target k (Take prev (child.Leaf span)) = refl
  entry_target k (Take prev (child.Node v)) = refl

  entry_obeyed : (k i : ℕ) (it : ItemNode) (e : Entry) → slice_get f.items k ≡ Some it → slice_get it.entries i ≡ Some e →
      of_item k ≤ needs e
  entry_obeyed k i it e has among =
      let o = least.obeyed _ (entry_among k i it e has among) in let n = entry_needs k e in
      let s = ap (height_at hs) (entry_target k e) in omega (arith, o, n, s)

  entry_made : (k i : ℕ) (it : ItemNode) (e : Entry) → slice_get f.items k ≡ Some it → slice_get it.entries i ≡ Some e →
      needs e ≤ length f.nodes → of_item k ≤ length f.nodes
  entry_made k i it e has among low =
      let rule : Rule = entry_rule (length f.nodes) (bottom_of f) k e in
      let n = entry_needs k e in let m = rules.nodes in
      let h = least.made rule (entry_among k i it e has among) (omega (arith, n, low, m)) (omega (arith, n, low, m)) in
      let s = ap (height_at hs) (entry_target k e) in omega (arith, h, s, m)

  choice_among : (v i : ℕ) (node : forest.Node) (c : Choice) → slice_get f.nodes v ≡ Some node →
      slice_get node.alternatives i ≡ Some c → Contains t.rules.items (choice_rule (length f.nodes) (bottom_of f) v c)
  choice_among v i node c has among =
      rules.whole _ (table.choice v node c (slice_get_within f.nodes v node has) has (contains_from_at node.alternatives i c among) refl)

  choice_obeyed : (v i : ℕ) (node : forest.Node) (c : Choice) → slice_get f.nodes v ≡ Some node →
      slice_get node.alternatives i ≡ Some c → of_node v ≤ suc (of_item c.item)
  choice_obeyed v i node c has among =
      let o = least.obeyed _ (choice_among v i node c has among) in let g = bottom_none in let r = rise_low t.nodes v in
      omega (arith, o, g, r)

  choice_made : (v i : ℕ) (node : forest.Node) (c : Choice) → slice_get f.nodes v ≡ Some node →
      slice_get node.alternatives i ≡ Some c → of_item c.item ≤ length f.nodes → of_node v ≤ length f.nodes
  choice_made v i node c has among low =
      let g = bottom_none in let m = rules.nodes in
      let h = least.made _ (choice_among v i node c has among) (omega (arith, low, m)) (omega (arith, g)) in omega (arith, h, m)

  mutual
    node_least : {v d : ℕ} {cs : List ℕ} {tree : Tree} → OfNode f v d cs tree → of_node v ≤ height tree
    node_least (trees.choose v d i node choice bs cs ts tree has among item is whole) =
        let h = item_least item in let o = choice_obeyed v i node choice has among in let e = ap height whole in
        omega (arith, h, o, e)

    item_least : {k d : ℕ} {cs : List ℕ} {ts : Trees} → OfItem f k d cs ts → of_item k ≤ greatest_height ts
    item_least (trees.begin k d i it cs has among is) = let o = entry_obeyed k i it Begin has among in omega (arith, o)
    item_least (trees.pass k d i prev it bs cs ts has among item is) =
        let h = item_least item in let o = entry_obeyed k i it (Pass prev) has among in omega (arith, h, o)
    item_least (trees.leaf k d i prev it span bs cs ts us has among item is whole) =
        let h = item_least item in let o = entry_obeyed k i it (Take prev (child.Leaf span)) has among in
        let e = ap greatest_height whole in let g = greatest_one ts (Leaf span.begin span.end) in omega (arith, h, o, e, g)
    item_least (trees.node k d i prev v it ps bs cs ts us tree has among item of_tree is whole) =
        let h = item_least item in let l = node_least of_tree in
        let o = entry_obeyed k i it (Take prev (child.Node v)) has among in
        let e = ap greatest_height whole in let g = greatest_one ts tree in omega (arith, h, l, o, e, g)

  mutual
    node_known : {v d : ℕ} {cs : List ℕ} {tree : Tree} → OfNode f v d cs tree → of_node v ≤ length f.nodes
    node_known (trees.choose v d i node choice bs cs ts tree has among item is whole) =
        choice_made v i node choice has among (item_known item)

    item_known : {k d : ℕ} {cs : List ℕ} {ts : Trees} → OfItem f k d cs ts → of_item k ≤ length f.nodes
    item_known (trees.begin k d i it cs has among is) = entry_made k i it Begin has among (omega arith)
    item_known (trees.pass k d i prev it bs cs ts has among item is) =
        entry_made k i it (Pass prev) has among (item_known item)
    item_known (trees.leaf k d i prev it span bs cs ts us has among item is whole) =
        entry_made k i it (Take prev (child.Leaf span)) has among (item_known item)
    item_known (trees.node k d i prev v it ps bs cs ts us tree has among item of_tree is whole) =
        let h = item_known item in let l = node_known of_tree in
        entry_made k i it (Take prev (child.Node v)) has among (omega (arith, h, l))

  -- the entry by which an item has its height
  record ByEntry (k : ℕ) : Type 0 where
    it : ItemNode
    e : Entry
    has : slice_get f.items k ≡ Some it
    among : Contains it.entries e
    low : needs e ≤ of_item k

  record ByChoice (v : ℕ) : Type 0 where
    node : forest.Node
    c : Choice
    has : slice_get f.nodes v ≡ Some node
    among : Contains node.alternatives c
    low : suc (of_item c.item) ≤ of_node v

  entry_by : (k : ℕ) (rule : Rule) → IsRuleOf f (length f.nodes) (length f.items) rule → rule.target ≡ length f.nodes + k →
      need t.nodes hs rule ≤ of_item k → ByEntry k
  entry_by k rule (table.entry j it e less has among is) target low =
      let same : j ≡ k = (let a = ap (λ (z : Rule). z.target) is in let b = entry_target j e in omega (arith, a, b, target)) in
      let n = ap (need t.nodes hs) is in let m = entry_needs j e in
      record { it = it; e = e; has = ap (slice_get f.items) (sym same) ∙ has; among = among; low = omega (arith, n, m, low) }
  entry_by k rule (table.choice v node c less has among is) target low =
      let a = ap (λ (z : Rule). z.target) is in absurd (omega (arith, a, target, less))

  choice_by : (v : ℕ) (rule : Rule) → IsRuleOf f (length f.nodes) (length f.items) rule → rule.target ≡ v → v < length f.nodes →
      need t.nodes hs rule ≤ of_node v → ByChoice v
  choice_by v rule (table.entry j it e less has among is) target inside low =
      let a = ap (λ (z : Rule). z.target) is in let b = entry_target j e in absurd (omega (arith, a, b, target, inside))
  choice_by v rule (table.choice u node c less has among is) target inside low =
      let same : u ≡ v = (let a = ap (λ (z : Rule). z.target) is in omega (arith, a, target)) in
      let n = ap (need t.nodes hs) is in let g = bottom_none in let m = rules.nodes in
      let r = rise_one t.nodes u (omega (arith, less, m)) in
      record { node = node; c = c; has = ap (slice_get f.nodes) (sym same) ∙ has; among = among; low = omega (arith, n, g, r, low) }

  item_given : (k : ℕ) → k < length f.items → of_item k ≤ length f.nodes → ByEntry k
  item_given k inside known =
      let m = rules.nodes in let g = rules.bottom in let p = t.there in
      elim (least.given (length f.nodes + k) (omega (arith, inside, g, p)) (omega (arith, known, m))) [
        | inl e ↦ absurd (omega (arith, e, g, inside))
        | inr given ↦ entry_by k given.rule (rules.sound given.rule given.among) given.target given.needs
      ]

  node_given : (v : ℕ) → v < length f.nodes → of_node v ≤ length f.nodes → ByChoice v
  node_given v inside known =
      let m = rules.nodes in let g = rules.bottom in let p = t.there in
      elim (least.given v (omega (arith, inside, g, p)) (omega (arith, known, m))) [
        | inl e ↦ absurd (omega (arith, e, g, inside))
        | inr given ↦ choice_by v given.rule (rules.sound given.rule given.among) given.target inside given.needs
      ]

  record NodeThere (v d : ℕ) : Type 0 where
    cs : List ℕ
    tree : Tree
    here : OfNode f v d cs tree

  record ItemThere (k d : ℕ) : Type 0 where
    cs : List ℕ
    ts : Trees
    here : OfItem f k d cs ts

  abbrev Nodes : ℕ → Type 0
  Nodes d = (v : ℕ) → v < length f.nodes → of_node v ≤ length f.nodes → of_node v ≤ d → NodeThere v d

  abbrev Items : ℕ → ℕ → Type 0
  Items d k = (prev : ℕ) → prev < k → of_item prev ≤ length f.nodes → of_item prev ≤ d → ItemThere prev d

  module _ (trim : IsTrim f) where
    entry_there : (d k i : ℕ) (it : ItemNode) (e : Entry) → slice_get f.items k ≡ Some it → slice_get it.entries i ≡ Some e →
        needs e ≤ length f.nodes → needs e ≤ d → Nodes d → Items d k → ItemThere k d
    entry_there d k i it Begin has among known low nodes items =
        record { cs = noted (length it.entries) i; ts = none; here = trees.begin k d i it _ has among refl }
    entry_there d k i it (Pass prev) has among known low nodes items =
        let b = trim.onward k it (Pass prev) has (contains_from_at it.entries i _ among) in
        let h = items prev b known low in
        record { cs = noted (length it.entries) i ++ h.cs; ts = h.ts; here = trees.pass k d i prev it h.cs _ h.ts has among h.here refl }
    entry_there d k i it (Take prev (child.Leaf span)) has among known low nodes items =
        let b = trim.onward k it (Take prev (child.Leaf span)) has (contains_from_at it.entries i _ among) in
        let h = items prev b known low in
        record {
          cs = noted (length it.entries) i ++ h.cs;
          ts = join h.ts (one (Leaf span.begin span.end));
          here = trees.leaf k d i prev it span h.cs _ h.ts _ has among h.here refl refl;
        }
    entry_there d k i it (Take prev (child.Node v)) has among known low nodes items =
        let b = trim.onward k it (Take prev (child.Node v)) has (contains_from_at it.entries i _ among) in
        let n = trim.forest.entries k it (Take prev (child.Node v)) has (contains_from_at it.entries i _ among) in
        let h = items prev b (omega (arith, known)) (omega (arith, low)) in
        let g = nodes v n.1 (omega (arith, known)) (omega (arith, low)) in
        record {
          cs = noted (length it.entries) i ++ (h.cs ++ g.cs);
          ts = join h.ts (one g.tree);
          here = trees.node k d i prev v it h.cs g.cs _ h.ts _ g.tree has among h.here g.here refl refl;
        }

    items_there : (d : ℕ) → Nodes d → (m k : ℕ) → k < m → k < length f.items → of_item k ≤ length f.nodes → of_item k ≤ d →
        ItemThere k d
    items_there d nodes zero k less inside known low = absurd (omega (arith, less))
    items_there d nodes (suc m) k less inside known low =
        let b = item_given k inside known in let i = at_from_contains b.it.entries b.e b.among in let n = b.low in
        entry_there d k i.0 b.it b.e b.has i.1 (omega (arith, n, known)) (omega (arith, n, low)) nodes
        (λ prev before fits enough. items_there d nodes m prev (omega (arith, before, less)) (omega (arith, before, inside)) fits enough)

    nodes_there : (d : ℕ) → Nodes d
    nodes_there zero v inside known low =
        let b = node_given v inside known in let n = b.low in absurd (omega (arith, n, low))
    nodes_there (suc d) v inside known low =
        let b = node_given v inside known in let n = b.low in
        let i = at_from_contains b.node.alternatives b.c b.among in
        let item = trim.forest.alternatives v b.node b.c b.has b.among in
        let h = items_there d (nodes_there d) (length f.items) b.c.item item item (omega (arith, n, known)) (omega (arith, n, low)) in
        record {
          cs = noted (length b.node.alternatives) i.0 ++ h.cs;
          tree = Node b.c.tag b.node.span.begin b.node.span.end h.ts;
          here = trees.choose v d i.0 b.node b.c h.cs _ h.ts _ b.has i.1 h.here refl refl;
        }

    module _ (live : HasTrees f) where
      pub node_exact : (v : ℕ) → v < length f.nodes → IsLeastOfNode f v (height_at hs v)
      node_exact v inside =
          let h = nodes_there (of_node v) v inside (node_known ((live.nodes v inside).3)) (omega arith) in
          let l = node_least h.here in let d = node_low f h.here in
          record {
            cursor = h.cs;
            tree = h.tree;
            attained = h.here;
            high = omega (arith, l, d);
            least = λ d cs tree of_tree. let a = node_least of_tree in let b = node_low f of_tree in omega (arith, a, b);
            none_lower = λ d cs tree of_tree. node_least of_tree;
          }

      pub item_exact : (k : ℕ) → k < length f.items → IsLeastOfItem f k (height_at hs (length f.nodes + k))
      item_exact k inside =
          let h = items_there (of_item k) (nodes_there (of_item k)) (length f.items) k inside inside (item_known ((live.items k inside).3)) (omega arith) in
          let l = item_least h.here in let d = item_low f h.here in
          record {
            cursor = h.cs;
            trees = h.ts;
            attained = h.here;
            high = omega (arith, l, d);
            least = λ d cs ts of_list. let a = item_least of_list in let b = item_low f of_list in omega (arith, a, b);
            none_lower = λ d cs ts of_list. item_least of_list;
          }

      pub node_small : (v : ℕ) → v < length f.nodes → height_at hs v ≤ length f.nodes
      node_small v inside = node_known ((live.nodes v inside).3)

      pub item_small : (k : ℕ) → k < length f.items → height_at hs (length f.nodes + k) ≤ length f.nodes
      item_small k inside = item_known ((live.items k inside).3)
