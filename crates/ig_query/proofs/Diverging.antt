-- Cursors that part, and the trees that go through an ambiguous node: two, whose cursors part.
use Rattle.std.proofs.Common.{◌≡◌, ◌⊎◌, inl, inr, ℕ, zero, suc, ◌+◌, ◌<◌, ◌≤◌, List, [], ◌∷◌, ◌++◌, Some, length, slice_get, Contains, append_assoc, refl, sym, ap, ◌∙◌, subst, arith}
use Rattle.std.proofs.lemmas.List.{append-nil}
use Rattle.std.proofs.lemmas.Option.{same_Some, slice_get_within}
use Rattle.ig_text.specs.Tree.{Tree, Trees, Leaf, Node, one, join}
use Rattle.ig_text.proofs.Lists.{at_from_contains, contains_from_at, get_within}
use Rattle.ig_forest_tables.specs.Forest as forest
use Rattle.ig_forest_tables.specs.Forest.{Forest, ItemNode}
use Rattle.ig_forest_tables.specs.Unfold as ways
use Rattle.ig_forest_tables.specs.Unfold.{OfNode, OfItem, TheNode, node_uses, item_uses, noted, HasTrees, IsTrim}
use Rattle.ig_forest.specs.Laws.{TrimHasTrees}
use Rattle.ig_forest_tables.specs.declared.entry.Choice.{Choice}
use Rattle.ig_forest_tables.specs.declared.entry.Entry.{Entry}
use Rattle.ig_forest_tables.specs.declared.entry.Entry.TheVariants.{Begin, Pass, Take}
use Rattle.ig_forest_tables.specs.declared.entry.Child.TheVariants as child
use Rattle.ig_heights.specs.Laws.{DepthsAreHeights, HasLowTrees}
use Rattle.ig_query.specs.Ambiguity as forked
use Rattle.ig_query.specs.Ambiguity.{IsAmbiguous, IsAmbiguousNode, IsForked, link}
use Rattle.ig_query.specs.InTrees.{HasTwoTrees, TreesHaveOneCursor}

-- after a common beginning the cursors differ
record Part (cs ds : List ℕ) : Type 0 where
  before : List ℕ
  x : ℕ
  y : ℕ
  rest : List ℕ
  others : List ℕ
  first : cs ≡ before ++ x ∷ rest
  second : ds ≡ before ++ y ∷ others
  differ : x ≡ y → ⊥

same_behind : (before : List ℕ) (x y : ℕ) (rest others : List ℕ) → before ++ x ∷ rest ≡ before ++ y ∷ others → x ≡ y
same_behind [] x y rest others e = cc
same_behind (z ∷ before) x y rest others e =
    let tail : before ++ x ∷ rest ≡ before ++ y ∷ others = cc in same_behind before x y rest others tail

part_never_same : {cs ds : List ℕ} → Part cs ds → cs ≡ ds → ⊥
part_never_same p e = p.differ (same_behind p.before p.x p.y p.rest p.others (sym p.first ∙ e ∙ p.second))

part_behind : (front : List ℕ) {cs ds : List ℕ} → Part cs ds → Part (front ++ cs) (front ++ ds)
part_behind front p =
    record {
      before = front ++ p.before;
      x = p.x;
      y = p.y;
      rest = p.rest;
      others = p.others;
      first = ap (λ z. front ++ z) p.first ∙ sym (append_assoc front p.before (p.x ∷ p.rest));
      second = ap (λ z. front ++ z) p.second ∙ sym (append_assoc front p.before (p.y ∷ p.others));
      differ = p.differ;
    }

part_ahead : {cs ds : List ℕ} (a b : List ℕ) → Part cs ds → Part (cs ++ a) (ds ++ b)
part_ahead a b p =
    record {
      before = p.before;
      x = p.x;
      y = p.y;
      rest = p.rest ++ a;
      others = p.others ++ b;
      first = ap (λ z. z ++ a) p.first ∙ append_assoc p.before (p.x ∷ p.rest) a;
      second = ap (λ z. z ++ b) p.second ∙ append_assoc p.before (p.y ∷ p.others) b;
      differ = p.differ;
    }

noted_there : (n i : ℕ) → 1 < n → noted n i ≡ i ∷ []
noted_there zero i two = absurd (omega (arith, two))
noted_there (suc zero) i two = absurd (omega (arith, two))
noted_there (suc (suc n)) i two = refl

-- two choices part the cursors
part_here : (n : ℕ) (a b : List ℕ) → 1 < n → Part (noted n 0 ++ a) (noted n 1 ++ b)
part_here n a b two =
    record {
      before = [];
      x = 0;
      y = 1;
      rest = a;
      others = b;
      first = ap (λ (z : List ℕ). z ++ a) (noted_there n 0 two);
      second = ap (λ (z : List ℕ). z ++ b) (noted_there n 1 two);
      differ = λ e. cc;
    }

module _ (f : Forest) (low : HasLowTrees f) where
  raise : {v d : ℕ} {cs : List ℕ} {t : Tree} (e : ℕ) → d ≤ e → OfNode f v d cs t → OfNode f v e cs t
  raise {v = v} {d = d} {cs = cs} {t = t} e le o =
      low.at_height v d e cs t o (let h = low.low v d cs t o in omega (arith, h, le))

  raise_list : {k d : ℕ} {cs : List ℕ} {ts : Trees} (e : ℕ) → d ≤ e → OfItem f k d cs ts → OfItem f k e cs ts
  raise_list {k = k} {d = d} {cs = cs} {ts = ts} e le o =
      low.list_at_height k d e cs ts o (let h = low.low_list k d cs ts o in omega (arith, h, le))

  -- two trees of a node, and two lists of trees of an item node, whose cursors part
  record NodeParts (v : ℕ) : Type 0 where
    depth : ℕ
    cs : List ℕ
    ds : List ℕ
    t : Tree
    u : Tree
    first : OfNode f v depth cs t
    second : OfNode f v depth ds u
    parts : Part cs ds

  record ItemParts (k : ℕ) : Type 0 where
    depth : ℕ
    cs : List ℕ
    ds : List ℕ
    ts : Trees
    us : Trees
    first : OfItem f k depth cs ts
    second : OfItem f k depth ds us
    parts : Part cs ds

  module _ (k i : ℕ) (it : ItemNode) (at : slice_get f.items k ≡ Some it) where
    through_pass : (prev : ℕ) → slice_get it.entries i ≡ Some (Pass prev) → ItemParts prev → ItemParts k
    through_pass prev among p =
        record {
          depth = p.depth;
          cs = noted (length it.entries) i ++ p.cs;
          ds = noted (length it.entries) i ++ p.ds;
          ts = p.ts;
          us = p.us;
          first = ways.pass k p.depth i prev it p.cs _ p.ts at among p.first refl;
          second = ways.pass k p.depth i prev it p.ds _ p.us at among p.second refl;
          parts = part_behind (noted (length it.entries) i) p.parts;
        }

    through_leaf : (prev : ℕ) (span : _) → slice_get it.entries i ≡ Some (Take prev (child.Leaf span)) → ItemParts prev → ItemParts k
    through_leaf prev span among p =
        record {
          depth = p.depth;
          cs = noted (length it.entries) i ++ p.cs;
          ds = noted (length it.entries) i ++ p.ds;
          ts = join p.ts (one (Leaf span.begin span.end));
          us = join p.us (one (Leaf span.begin span.end));
          first = ways.leaf k p.depth i prev it span p.cs _ p.ts _ at among p.first refl refl;
          second = ways.leaf k p.depth i prev it span p.ds _ p.us _ at among p.second refl refl;
          parts = part_behind (noted (length it.entries) i) p.parts;
        }

    through_prev : (prev v d : ℕ) (bs : List ℕ) (t : Tree) → slice_get it.entries i ≡ Some (Take prev (child.Node v)) →
        OfNode f v d bs t → ItemParts prev → ItemParts k
    through_prev prev v d bs t among o p =
        let most : ℕ = p.depth + d in
        record {
          depth = most;
          cs = noted (length it.entries) i ++ (p.cs ++ bs);
          ds = noted (length it.entries) i ++ (p.ds ++ bs);
          ts = join p.ts (one t);
          us = join p.us (one t);
          first =
              ways.node k most i prev v it p.cs bs _ p.ts _ t at among (raise_list most (omega arith) p.first)
              (raise most (omega arith) o) refl refl;
          second =
              ways.node k most i prev v it p.ds bs _ p.us _ t at among (raise_list most (omega arith) p.second)
              (raise most (omega arith) o) refl refl;
          parts = part_behind (noted (length it.entries) i) (part_ahead bs bs p.parts);
        }

    through_child : (prev v d : ℕ) (ps : List ℕ) (ts : Trees) → slice_get it.entries i ≡ Some (Take prev (child.Node v)) →
        OfItem f prev d ps ts → NodeParts v → ItemParts k
    through_child prev v d ps ts among o p =
        let most : ℕ = p.depth + d in
        record {
          depth = most;
          cs = noted (length it.entries) i ++ (ps ++ p.cs);
          ds = noted (length it.entries) i ++ (ps ++ p.ds);
          ts = join ts (one p.t);
          us = join ts (one p.u);
          first =
              ways.node k most i prev v it ps p.cs _ ts _ p.t at among (raise_list most (omega arith) o)
              (raise most (omega arith) p.first) refl refl;
          second =
              ways.node k most i prev v it ps p.ds _ ts _ p.u at among (raise_list most (omega arith) o)
              (raise most (omega arith) p.second) refl refl;
          parts = part_behind (noted (length it.entries) i) (part_behind ps p.parts);
        }

  through_choice : (v i : ℕ) (node : forest.Node) (choice : Choice) → slice_get f.nodes v ≡ Some node →
      slice_get node.alternatives i ≡ Some choice → ItemParts choice.item → NodeParts v
  through_choice v i node choice at among p =
      record {
        depth = suc p.depth;
        cs = noted (length node.alternatives) i ++ p.cs;
        ds = noted (length node.alternatives) i ++ p.ds;
        t = Node choice.tag node.span.begin node.span.end p.ts;
        u = Node choice.tag node.span.begin node.span.end p.us;
        first = ways.choose v p.depth i node choice p.cs _ p.ts _ at among p.first refl refl;
        second = ways.choose v p.depth i node choice p.ds _ p.us _ at among p.second refl refl;
        parts = part_behind (noted (length node.alternatives) i) p.parts;
      }

  module _ (trim : IsTrim f) (has : HasTrees f) where
    -- some list of trees by an entry
    record EntryHas (k i : ℕ) (it : ItemNode) : Type 0 where
      depth : ℕ
      bs : List ℕ
      ts : Trees
      list : OfItem f k depth (noted (length it.entries) i ++ bs) ts

    entry_has : (k i : ℕ) (it : ItemNode) (e : Entry) → slice_get f.items k ≡ Some it → slice_get it.entries i ≡ Some e →
        EntryHas k i it
    entry_has k i it Begin at among =
        record {
          depth = 0;
          bs = [];
          ts = _;
          list = ways.begin k 0 i it _ at among (append-nil (noted (length it.entries) i));
        }
    entry_has k i it (Pass prev) at among =
        let fits = trim.forest.entries k it (Pass prev) at (contains_from_at it.entries i (Pass prev) among) in
        let (d, cs, ts, o) = has.items prev (slice_get_within f.items prev fits.it fits.there) in
        record { depth = d; bs = cs; ts = ts; list = ways.pass k d i prev it cs _ ts at among o refl }
    entry_has k i it (Take prev (child.Leaf span)) at among =
        let fits = trim.forest.entries k it (Take prev (child.Leaf span)) at (contains_from_at it.entries i (Take prev (child.Leaf span)) among) in
        let (d, cs, ts, o) = has.items prev (slice_get_within f.items prev fits.it fits.there) in
        record { depth = d; bs = cs; ts = _; list = ways.leaf k d i prev it span cs _ ts _ at among o refl refl }
    entry_has k i it (Take prev (child.Node v)) at among =
        let fits = trim.forest.entries k it (Take prev (child.Node v)) at (contains_from_at it.entries i (Take prev (child.Node v)) among) in
        let (d, cs, ts, o) = has.items prev (slice_get_within f.items prev fits.0.it fits.0.there) in
        let (e, bs, t, p) = has.nodes v fits.1 in
        let most : ℕ = d + e in
        record {
          depth = most;
          bs = cs ++ bs;
          ts = _;
          list =
              ways.node k most i prev v it cs bs _ ts _ t at among (raise_list most (omega arith) o) (raise most (omega arith) p)
              refl refl;
        }

    by_entry : (k i : ℕ) (it : ItemNode) (e : Entry) (prev : ℕ) → slice_get f.items k ≡ Some it → slice_get it.entries i ≡ Some e →
        link e ≡ Some prev → ItemParts prev → ItemParts k
    by_entry k i it Begin prev at among l p = cc
    by_entry k i it (Pass q) prev at among l p =
        through_pass k i it at q among (subst ItemParts (sym (same_Some q prev l)) p)
    by_entry k i it (Take q (child.Leaf span)) prev at among l p =
        through_leaf k i it at q span among (subst ItemParts (sym (same_Some q prev l)) p)
    by_entry k i it (Take q (child.Node v)) prev at among l p =
        let fits = trim.forest.entries k it (Take q (child.Node v)) at (contains_from_at it.entries i (Take q (child.Node v)) among) in
        let (e, bs, t, o) = has.nodes v fits.1 in
        through_prev k i it at q v e bs t among o (subst ItemParts (sym (same_Some q prev l)) p)

    fork_parts : (k : ℕ) → IsForked f k → ItemParts k
    fork_parts k (forked.here m it at two) =
        let a = get_within it.entries 0 (omega (arith, two)) in
        let b = get_within it.entries 1 two in
        let x = entry_has k 0 it a.0 at a.1 in
        let y = entry_has k 1 it b.0 at b.1 in
        let most : ℕ = x.depth + y.depth in
        record {
          depth = most;
          cs = noted (length it.entries) 0 ++ x.bs;
          ds = noted (length it.entries) 1 ++ y.bs;
          ts = x.ts;
          us = y.ts;
          first = raise_list most (omega arith) x.list;
          second = raise_list most (omega arith) y.list;
          parts = part_here (length it.entries) x.bs y.bs two;
        }
    fork_parts k (forked.behind m prev it e at among l fork) =
        let place = at_from_contains it.entries e among in
        by_entry k place.0 it e prev at place.1 l (fork_parts prev fork)

    node_parts : (v : ℕ) → IsAmbiguousNode f v → NodeParts v
    node_parts v a = by_ways a.ways
      where
        two_choices : 1 < length a.node.alternatives → NodeParts v
        two_choices two =
            let x = get_within a.node.alternatives 0 (omega (arith, two)) in
            let y = get_within a.node.alternatives 1 two in
            let (d, cs, ts, o) =
            has.items x.0.item (trim.forest.alternatives v a.node x.0 a.there (contains_from_at a.node.alternatives 0 x.0 x.1)) in
            let (e, ds, us, p) =
            has.items y.0.item (trim.forest.alternatives v a.node y.0 a.there (contains_from_at a.node.alternatives 1 y.0 y.1)) in
            let most : ℕ = d + e in
            record {
              depth = suc most;
              cs = noted (length a.node.alternatives) 0 ++ cs;
              ds = noted (length a.node.alternatives) 1 ++ ds;
              t = Node x.0.tag a.node.span.begin a.node.span.end ts;
              u = Node y.0.tag a.node.span.begin a.node.span.end us;
              first =
                  ways.choose v most 0 a.node x.0 cs _ ts _ a.there x.1 (raise_list most (omega arith) o) refl refl;
              second =
                  ways.choose v most 1 a.node y.0 ds _ us _ a.there y.1 (raise_list most (omega arith) p) refl refl;
              parts = part_here (length a.node.alternatives) cs ds two;
            }

        by_ways : (1 < length a.node.alternatives) ⊎
            ((choice : Choice) × Contains a.node.alternatives choice × IsForked f choice.item) → NodeParts v
        by_ways (inl two) = two_choices two
        by_ways (inr (choice, among, fork)) =
            let place = at_from_contains a.node.alternatives choice among in
            through_choice v place.0 a.node choice a.there place.1 (fork_parts choice.item fork)

    mutual
      -- two trees of a node that a tree uses give two trees of the whole
      node_through : {w d : ℕ} {cs : List ℕ} {t : Tree} (o : OfNode f w d cs t) (v : ℕ) → NodeParts v →
          node_uses f o (TheNode v) → NodeParts w
      node_through (ways.choose w d i n choice bs cs ts t at among of_item c is) v p (inl e) =
          let same : v ≡ w = cc in subst NodeParts same p
      node_through (ways.choose w d i n choice bs cs ts t at among of_item c is) v p (inr (inl e)) = cc
      node_through (ways.choose w d i n choice bs cs ts t at among of_item c is) v p (inr (inr u)) =
          through_choice w i n choice at among (item_through of_item v p u)

      item_through : {k d : ℕ} {cs : List ℕ} {ts : Trees} (o : OfItem f k d cs ts) (v : ℕ) → NodeParts v →
          item_uses f o (TheNode v) → ItemParts k
      item_through (ways.begin k d i it cs at among c) v p e = cc
      item_through (ways.pass k d i prev it bs cs ts at among of_prev c) v p (inl e) = cc
      item_through (ways.pass k d i prev it bs cs ts at among of_prev c) v p (inr u) =
          through_pass k i it at prev among (item_through of_prev v p u)
      item_through (ways.leaf k d i prev it span bs cs ts us at among of_prev c is) v p (inl e) = cc
      item_through (ways.leaf k d i prev it span bs cs ts us at among of_prev c is) v p (inr u) =
          through_leaf k i it at prev span among (item_through of_prev v p u)
      item_through (ways.node k d i prev w it ps bs cs ts us t at among of_prev of_node c is) v p (inl e) = cc
      item_through (ways.node k d i prev w it ps bs cs ts us t at among of_prev of_node c is) v p (inr (inl u)) =
          through_prev k i it at prev w d bs t among of_node (item_through of_prev v p u)
      item_through (ways.node k d i prev w it ps bs cs ts us t at among of_prev of_node c is) v p (inr (inr u)) =
          through_child k i it at prev w d ps ts among of_prev (node_through of_node v p u)

-- an ambiguous node gives two different trees of the root
pub two_trees : DepthsAreHeights → TrimHasTrees → (f : Forest) → IsTrim f → TreesHaveOneCursor f → IsAmbiguous f → HasTwoTrees f
two_trees depths trees f trim one_cursor (v, a) =
    let low = depths f in
    let has = trees f trim.alive in
    let used = trim.alive.nodes v (slice_get_within f.nodes v a.node a.there) in
    let p = node_through f low trim has used.unfolds v (node_parts f low trim has v a) used.uses in
    record {
      depth = p.depth;
      first = p.t;
      second = p.u;
      first_unfolds = (p.cs, p.first);
      second_unfolds = (p.ds, p.second);
      differ = λ e.
          part_never_same p.parts
          (one_cursor p.depth p.depth p.cs p.ds p.t p.first (subst (λ (z : Tree). OfNode f f.root p.depth p.ds z) (sym e) p.second));
    }
