-- A part that is made needs made parts alone, of no greater height; one that isn't made needs another one that isn't.
use Rattle.std.proofs.Common.{◌≡◌, ◌⊎◌, inl, inr, ℕ, zero, suc, ◌+◌, ◌<◌, ◌≤◌, List, ◌∷◌, ◌++◌, Some, length, slice_get, Contains, refl, sym, ap, ◌∙◌, arith}
use Rattle.std.proofs.lemmas.Option.{same_Some, slice_get_within}
use Rattle.ig_text.specs.Tree.{Tree, Trees, Leaf, Node, one, join, height, greatest_height}
use Rattle.ig_text.proofs.Lists.{at_from_contains, contains_from_at, in_rest}
use Rattle.ig_text.proofs.Orders.{le_or_lt}
use Rattle.ig_forest_tables.specs.Forest as forest
use Rattle.ig_forest_tables.specs.Forest.{Forest, ItemNode}
use Rattle.ig_forest_tables.specs.Unfold.{noted, OfNode, OfItem, IsTrim, HasTrees}
use Rattle.ig_forest_tables.specs.Unfold as trees
use Rattle.ig_forest_tables.specs.declared.entry.Choice.{Choice}
use Rattle.ig_forest_tables.specs.declared.entry.Entry.{Entry}
use Rattle.ig_forest_tables.specs.declared.entry.Entry.TheVariants.{Begin, Pass, Take}
use Rattle.ig_forest_tables.specs.declared.entry.Child.{Child}
use Rattle.ig_forest_tables.specs.declared.entry.Child.TheVariants as child
use Rattle.ig_heights.specs.Heights.{HasHigher, IsCyclic, HasNoHigher}
use Rattle.ig_heights.specs.Rules.{rise, height_at, need, AreLeast}
use Rattle.ig_heights.specs.Table.{bottom_of, entry_rule, choice_rule, IsRuleOf, IsLeastTable, Chain, IsSource, NeedsAll, IsWholeTable}
use Rattle.ig_heights.specs.Table as table
use Rattle.ig_heights.specs.declared.rule.Rule.{Rule}
use Rattle.ig_heights.specs.declared.rule.Table.{Table}
use Rattle.ig_heights.proofs.Numbers.{rise_one}
use Rattle.ig_heights.proofs.Depths.{greatest_one, node_low, item_low, node_at, item_at}

module _ (f : Forest) (l t : Table) (rules : IsLeastTable f l) (whole : IsWholeTable l t) (hs : List ℕ) (least : AreLeast t hs) where
  nodes_is : t.nodes ≡ length f.nodes
  nodes_is = whole.nodes ∙ rules.nodes

  bottom_is : t.bottom ≡ bottom_of f
  bottom_is = whole.bottom ∙ rules.bottom

  bottom_none : height_at hs (bottom_of f) ≡ 0
  bottom_none = ap (height_at hs) (sym bottom_is) ∙ least.bottom

  -- the one rule of a part gives it its height
  rule_given : (r : Rule) → Contains t.rules.items r → height_at hs r.target ≤ t.nodes →
      need t.nodes hs r ≤ height_at hs r.target
  rule_given r c known =
      elim (least.given r.target ((t.fit r c).target) known) [
        | inl free ↦ absurd (whole.none_free r c free)
        | inr given ↦
            let a = at_from_contains t.rules.items r c in let b = at_from_contains t.rules.items given.rule given.among in
            let same = whole.distinct b.0 a.0 given.rule r b.1 a.1 given.target in
            let is : given.rule ≡ r = same_Some given.rule r (sym b.1 ∙ ap (slice_get t.rules.items) same ∙ a.1) in
            let n = ap (need t.nodes hs) is in let g = given.needs in omega (arith, n, g)
      ]

  chain_low : {c : ℕ} {ps : List ℕ} → Chain t.rules.items t.bottom c ps → height_at hs c ≤ t.nodes → (p : ℕ) → Contains ps p →
      height_at hs p + rise t.nodes c ≤ height_at hs c
  chain_low (table.empty c is) known p among = let less = among.1 in absurd (omega (arith, less))
  chain_low (table.link c last part others rule chain) known p among =
      let g = rule_given _ rule known in
      elim (in_rest part others p among) [
        | inl e ↦ let h = ap (height_at hs) e in omega (arith, g, h)
        | inr o ↦ let h = chain_low chain (omega (arith, g, known)) p o in omega (arith, g, h)
      ]

  record Open (ps : List ℕ) : Type 0 where
    part : ℕ
    among : Contains ps part
    none : t.nodes < height_at hs part

  open_more : (p : ℕ) (ps : List ℕ) → Open ps → Open (p ∷ ps)
  open_more p ps o =
      let c = o.among in let less = c.1 in
      record { part = o.part; among = (suc c.0, omega (arith, less), c.2); none = o.none }

  chain_open : {c : ℕ} {ps : List ℕ} → Chain t.rules.items t.bottom c ps → t.nodes < height_at hs c → Open ps
  chain_open (table.empty c is) none = let h = ap (height_at hs) is in let g = least.bottom in absurd (omega (arith, none, h, g))
  chain_open (table.link c last part others rule chain) none =
      elim (le_or_lt (height_at hs part) t.nodes) [
        | inr open_part ↦ record { part = part; among = (zero, omega arith, refl); none = open_part }
        | inl known_part ↦ elim (le_or_lt (height_at hs last) t.nodes) [
          | inr open_last ↦ open_more part others (chain_open chain open_last)
          | inl known_last ↦
              let made = least.made _ rule known_last known_part in absurd (omega (arith, made, none))
        ]
      ]

  abbrev of_node : ℕ → ℕ
  of_node v = height_at hs v

  abbrev of_item : ℕ → ℕ
  of_item k = height_at hs (length f.nodes + k)

  node_needs : (v : ℕ) → v < length f.nodes → NeedsAll t.rules.items t.bottom v (IsSource l.rules.items v)
  node_needs v inside = let g = rules.bottom in whole.needs v (omega (arith, inside, g))

  item_needs : (k : ℕ) → k < length f.items →
      NeedsAll t.rules.items t.bottom (length f.nodes + k) (IsSource l.rules.items (length f.nodes + k))
  item_needs k inside = let g = rules.bottom in whole.needs (length f.nodes + k) (omega (arith, inside, g))

  entry_target : (k : ℕ) (e : Entry) → (entry_rule (length f.nodes) (bottom_of f) k e).target ≡ length f.nodes + k
  entry_target k Begin = refl
  entry_target k (Pass prev) = refl
  entry_target k (Take prev (child.Leaf span)) = refl
  entry_target k (Take prev (child.Node v)) = refl

  entry_source : (k i p : ℕ) (it : ItemNode) (e : Entry) → slice_get f.items k ≡ Some it → slice_get it.entries i ≡ Some e →
      (p ≡ (entry_rule (length f.nodes) (bottom_of f) k e).left) ⊎ (p ≡ (entry_rule (length f.nodes) (bottom_of f) k e).right) →
      IsSource l.rules.items (length f.nodes + k) p
  entry_source k i p it e has among is =
      record {
        rule = entry_rule (length f.nodes) (bottom_of f) k e;
        among = rules.whole _ (table.entry k it e (slice_get_within f.items k it has) has (contains_from_at it.entries i e among) refl);
        target = entry_target k e;
        is = is;
      }

  -- what an entry of a made item names is made, and no higher
  source_low : (k p : ℕ) → k < length f.items → of_item k ≤ length f.nodes → IsSource l.rules.items (length f.nodes + k) p →
      height_at hs p ≤ of_item k
  source_low k p inside known source =
      let n = item_needs k inside in let m = nodes_is in
      let h = chain_low n.chain (omega (arith, known, m)) p (n.all p source) in omega (arith, h)

  mutual
    low_node : {v d : ℕ} {cs : List ℕ} {tree : Tree} → OfNode f v d cs tree → of_node v ≤ length f.nodes → height tree ≤ of_node v
    low_node (trees.choose v d i node choice bs cs ts tree has among item is whole_is) known =
        let inside = slice_get_within f.nodes v node has in
        let n = node_needs v inside in let m = nodes_is in
        let source : IsSource l.rules.items v (length f.nodes + choice.item) =
        record {
          rule = choice_rule (length f.nodes) (bottom_of f) v choice;
          among = rules.whole _ (table.choice v node choice inside has (contains_from_at node.alternatives i choice among) refl);
          target = refl;
          is = inl refl;
        } in
        let h = chain_low n.chain (omega (arith, known, m)) (length f.nodes + choice.item) (n.all _ source) in
        let r = rise_one t.nodes v (omega (arith, inside, m)) in
        let g = low_item item (omega (arith, h, known)) in let e = ap height whole_is in
        omega (arith, h, r, g, e)

    low_item : {k d : ℕ} {cs : List ℕ} {ts : Trees} → OfItem f k d cs ts → of_item k ≤ length f.nodes →
        greatest_height ts ≤ of_item k
    low_item (trees.begin k d i it cs has among is) known = omega arith
    low_item (trees.pass k d i prev it bs cs ts has among item is) known =
        let s = source_low k (length f.nodes + prev) (slice_get_within f.items k it has) known
        (entry_source k i _ it (Pass prev) has among (inl refl)) in
        let h = low_item item (omega (arith, s, known)) in omega (arith, s, h)
    low_item (trees.leaf k d i prev it span bs cs ts us has among item is whole_is) known =
        let s = source_low k (length f.nodes + prev) (slice_get_within f.items k it has) known
        (entry_source k i _ it (Take prev (child.Leaf span)) has among (inl refl)) in
        let h = low_item item (omega (arith, s, known)) in let e = ap greatest_height whole_is in
        let g = greatest_one ts (Leaf span.begin span.end) in omega (arith, s, h, e, g)
    low_item (trees.node k d i prev v it ps bs cs ts us tree has among item of_tree is whole_is) known =
        let s = source_low k (length f.nodes + prev) (slice_get_within f.items k it has) known
        (entry_source k i _ it (Take prev (child.Node v)) has among (inl refl)) in
        let q = source_low k v (slice_get_within f.items k it has) known
        (entry_source k i _ it (Take prev (child.Node v)) has among (inr refl)) in
        let h = low_item item (omega (arith, s, known)) in let b = low_node of_tree (omega (arith, q, known)) in
        let e = ap greatest_height whole_is in let g = greatest_one ts tree in omega (arith, s, q, h, b, e, g)

  -- an entry that names a part that isn't made
  data Leads : Entry → Type 0 where
    by_pass : (prev : ℕ) → length f.nodes < of_item prev → Leads (Pass prev)
    by_take : (prev : ℕ) (c : Child) → length f.nodes < of_item prev → Leads (Take prev c)
    by_child : (prev v : ℕ) → length f.nodes < of_node v → Leads (Take prev (child.Node v))

  leads_by : (k p : ℕ) (e : Entry) → length f.nodes < height_at hs p →
      (p ≡ (entry_rule (length f.nodes) (bottom_of f) k e).left) ⊎ (p ≡ (entry_rule (length f.nodes) (bottom_of f) k e).right) →
      Leads e
  leads_by k p Begin none (inl e) = let h = ap (height_at hs) e in let g = bottom_none in absurd (omega (arith, none, h, g))
  leads_by k p Begin none (inr e) = let h = ap (height_at hs) e in let g = bottom_none in absurd (omega (arith, none, h, g))
  leads_by k p (Pass prev) none (inl e) = let h = ap (height_at hs) e in by_pass prev (omega (arith, none, h))
  leads_by k p (Pass prev) none (inr e) = let h = ap (height_at hs) e in let g = bottom_none in absurd (omega (arith, none, h, g))
  leads_by k p (Take prev (child.Leaf span)) none (inl e) =
      let h = ap (height_at hs) e in by_take prev (child.Leaf span) (omega (arith, none, h))
  leads_by k p (Take prev (child.Leaf span)) none (inr e) =
      let h = ap (height_at hs) e in let g = bottom_none in absurd (omega (arith, none, h, g))
  leads_by k p (Take prev (child.Node v)) none (inl e) =
      let h = ap (height_at hs) e in by_take prev (child.Node v) (omega (arith, none, h))
  leads_by k p (Take prev (child.Node v)) none (inr e) = let h = ap (height_at hs) e in by_child prev v (omega (arith, none, h))

  record ItemOpen (k : ℕ) : Type 0 where
    it : ItemNode
    e : Entry
    has : slice_get f.items k ≡ Some it
    among : Contains it.entries e
    leads : Leads e

  record NodeOpen (v : ℕ) : Type 0 where
    node : forest.Node
    c : Choice
    has : slice_get f.nodes v ≡ Some node
    among : Contains node.alternatives c
    none : length f.nodes < of_item c.item

  source_at : (p : ℕ) (r s : Rule) → r ≡ s → (p ≡ r.left) ⊎ (p ≡ r.right) → (p ≡ s.left) ⊎ (p ≡ s.right)
  source_at p r s is (inl e) = inl (e ∙ ap (λ (z : Rule). z.left) is)
  source_at p r s is (inr e) = inr (e ∙ ap (λ (z : Rule). z.right) is)

  item_by : (k p : ℕ) (rule : Rule) → IsRuleOf f (length f.nodes) (length f.items) rule → rule.target ≡ length f.nodes + k →
      (p ≡ rule.left) ⊎ (p ≡ rule.right) → length f.nodes < height_at hs p → ItemOpen k
  item_by k p rule (table.entry j it e less has among is) target source none =
      let same : j ≡ k = (let a = ap (λ (z : Rule). z.target) is in let b = entry_target j e in omega (arith, a, b, target)) in
      record {
        it = it;
        e = e;
        has = ap (slice_get f.items) (sym same) ∙ has;
        among = among;
        leads = leads_by j p e none (source_at p rule _ is source);
      }
  item_by k p rule (table.choice v node c less has among is) target source none =
      let a = ap (λ (z : Rule). z.target) is in absurd (omega (arith, a, target, less))

  node_by : (v p : ℕ) (rule : Rule) → IsRuleOf f (length f.nodes) (length f.items) rule → rule.target ≡ v → v < length f.nodes →
      (p ≡ rule.left) ⊎ (p ≡ rule.right) → length f.nodes < height_at hs p → NodeOpen v
  node_by v p rule (table.entry j it e less has among is) target inside source none =
      let a = ap (λ (z : Rule). z.target) is in let b = entry_target j e in absurd (omega (arith, a, b, target, inside))
  node_by v p rule (table.choice u node c less has among is) target inside source none =
      let same : u ≡ v = (let a = ap (λ (z : Rule). z.target) is in omega (arith, a, target)) in
      record {
        node = node;
        c = c;
        has = ap (slice_get f.nodes) (sym same) ∙ has;
        among = among;
        none = elim (source_at p rule _ is source) [
          | inl e ↦ let h = ap (height_at hs) e in omega (arith, none, h)
          | inr e ↦ let h = ap (height_at hs) e in let g = bottom_none in absurd (omega (arith, none, h, g))
        ];
      }

  item_open : (k : ℕ) → k < length f.items → length f.nodes < of_item k → ItemOpen k
  item_open k inside none =
      let n = item_needs k inside in let m = nodes_is in
      let o = chain_open n.chain (omega (arith, none, m)) in let high = o.none in
      elim (n.only o.part o.among) [
        | inl e ↦ let h = ap (height_at hs) e in let g = least.bottom in absurd (omega (arith, h, g, high))
        | inr s ↦ item_by k o.part s.rule (rules.sound s.rule s.among) s.target s.is (omega (arith, high, m))
      ]

  node_open : (v : ℕ) → v < length f.nodes → length f.nodes < of_node v → NodeOpen v
  node_open v inside none =
      let n = node_needs v inside in let m = nodes_is in
      let o = chain_open n.chain (omega (arith, none, m)) in let high = o.none in
      elim (n.only o.part o.among) [
        | inl e ↦ let h = ap (height_at hs) e in let g = least.bottom in absurd (omega (arith, h, g, high))
        | inr s ↦ node_by v o.part s.rule (rules.sound s.rule s.among) s.target inside s.is (omega (arith, high, m))
      ]

  abbrev HasHigherList : ℕ → ℕ → Type 0
  HasHigherList k h = (d : ℕ) × (cs : List ℕ) × (ts : Trees) × OfItem f k d cs ts × (h < greatest_height ts)

  module _ (trim : IsTrim f) (live : HasTrees f) where
    before : (k i : ℕ) (it : ItemNode) (prev : ℕ) (c : Child) → slice_get f.items k ≡ Some it →
        slice_get it.entries i ≡ Some (Take prev c) → prev < k
    before k i it prev c has among = trim.onward k it (Take prev c) has (contains_from_at it.entries i _ among)

    there : (k i : ℕ) (it : ItemNode) (prev v : ℕ) → slice_get f.items k ≡ Some it →
        slice_get it.entries i ≡ Some (Take prev (child.Node v)) → v < length f.nodes
    there k i it prev v has among = (trim.forest.entries k it (Take prev (child.Node v)) has (contains_from_at it.entries i _ among)).1

    higher_by : (h k i : ℕ) (it : ItemNode) (e : Entry) → slice_get f.items k ≡ Some it → slice_get it.entries i ≡ Some e → Leads e →
        ((v : ℕ) → v < length f.nodes → length f.nodes < of_node v → HasHigher f v h) →
        ((prev : ℕ) → prev < k → length f.nodes < of_item prev → HasHigherList prev h) → HasHigherList k h
    higher_by h k i it _ has among (by_pass prev none) nodes items =
        let p = items prev (trim.onward k it (Pass prev) has (contains_from_at it.entries i _ among)) none in
        (p.0, noted (length it.entries) i ++ p.1, p.2, trees.pass k p.0 i prev it p.1 _ p.2 has among p.3 refl, p.4)
    higher_by h k i it _ has among (by_take prev (child.Leaf span) none) nodes items =
        let p = items prev (before k i it prev (child.Leaf span) has among) none in
        let g = greatest_one p.2 (Leaf span.begin span.end) in let high = p.4 in (
          p.0,
          noted (length it.entries) i ++ p.1,
          join p.2 (one (Leaf span.begin span.end)),
          trees.leaf k p.0 i prev it span p.1 _ p.2 _ has among p.3 refl refl,
          omega (arith, g, high),
        )
    higher_by h k i it _ has among (by_take prev (child.Node v) none) nodes items =
        let p = items prev (before k i it prev (child.Node v) has among) none in
        let q = live.nodes v (there k i it prev v has among) in
        let a = item_low f p.3 in let b = node_low f q.3 in
        let d = p.0 + q.0 in let g = greatest_one p.2 q.2 in let high = p.4 in (
          d,
          noted (length it.entries) i ++ (p.1 ++ q.1),
          join p.2 (one q.2),
          trees.node k d i prev v it p.1 q.1 _ p.2 _ q.2 has among (item_at f p.3 d (omega (arith, a))) (node_at f q.3 d (omega (arith, b))) refl refl,
          omega (arith, g, high),
        )
    higher_by h k i it _ has among (by_child prev v none) nodes items =
        let q = nodes v (there k i it prev v has among) none in
        let below = before k i it prev (child.Node v) has among in let inside = slice_get_within f.items k it has in
        let p = live.items prev (omega (arith, below, inside)) in
        let a = item_low f p.3 in let b = node_low f q.3 in
        let d = p.0 + q.0 in let g = greatest_one p.2 q.2 in let high = q.4 in (
          d,
          noted (length it.entries) i ++ (p.1 ++ q.1),
          join p.2 (one q.2),
          trees.node k d i prev v it p.1 q.1 _ p.2 _ q.2 has among (item_at f p.3 d (omega (arith, a))) (node_at f q.3 d (omega (arith, b))) refl refl,
          omega (arith, g, high),
        )

    higher_items : (h : ℕ) → ((v : ℕ) → v < length f.nodes → length f.nodes < of_node v → HasHigher f v h) → (m k : ℕ) → k < m →
        k < length f.items → length f.nodes < of_item k → HasHigherList k h
    higher_items h nodes zero k less inside none = absurd (omega (arith, less))
    higher_items h nodes (suc m) k less inside none =
        let o = item_open k inside none in let i = at_from_contains o.it.entries o.e o.among in
        higher_by h k i.0 o.it o.e o.has i.1 o.leads nodes
        (λ prev lower also. higher_items h nodes m prev (omega (arith, lower, less)) (omega (arith, lower, inside)) also)

    higher_nodes : (h v : ℕ) → v < length f.nodes → length f.nodes < of_node v → HasHigher f v h
    higher_nodes zero v inside none =
        let o = node_open v inside none in let i = at_from_contains o.node.alternatives o.c o.among in
        let p = live.items o.c.item (trim.forest.alternatives v o.node o.c o.has o.among) in (
          suc p.0,
          noted (length o.node.alternatives) i.0 ++ p.1,
          Node o.c.tag o.node.span.begin o.node.span.end p.2,
          trees.choose v p.0 i.0 o.node o.c p.1 _ p.2 _ o.has i.1 p.3 refl refl,
          omega arith,
        )
    higher_nodes (suc h) v inside none =
        let o = node_open v inside none in let i = at_from_contains o.node.alternatives o.c o.among in
        let item = trim.forest.alternatives v o.node o.c o.has o.among in
        let p = higher_items h (higher_nodes h) (suc o.c.item) o.c.item (omega arith) item o.none in let high = p.4 in (
          suc p.0,
          noted (length o.node.alternatives) i.0 ++ p.1,
          Node o.c.tag o.node.span.begin o.node.span.end p.2,
          trees.choose v p.0 i.0 o.node o.c p.1 _ p.2 _ o.has i.1 p.3 refl refl,
          omega (arith, high),
        )

    pub cyclic : length f.nodes < height_at hs f.root → IsCyclic f
    cyclic none h = higher_nodes h f.root trim.forest.root none

  pub bounded : height_at hs f.root ≤ length f.nodes → HasNoHigher f (length f.nodes)
  bounded known d cs tree of_tree = let h = low_node of_tree known in omega (arith, h, known)
