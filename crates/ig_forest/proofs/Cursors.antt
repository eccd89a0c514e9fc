-- In the reduced forest a tree has one cursor.
use Rattle.std.proofs.Common.{◌≡◌, ℕ, suc, ◌++◌, List, Some, length, slice_get, refl, sym, ap, ap₂, ◌∙◌, subst, subst₂, arith}
use Rattle.std.proofs.lemmas.Option.{same_Some}
use Rattle.ig_text.specs.Input.{Input}
use Rattle.ig_text.specs.declared.tag.Tag.{Tag}
use Rattle.ig_text.specs.declared.text.Span.{Span}
use Rattle.ig_text.specs.Tree.{Tree, Trees, Leaf, Node, one, join}
use Rattle.ig_text.proofs.Trees.{parted}
use Rattle.ig_text.proofs.Lists.{contains_from_at}
use Rattle.ig_text.proofs.Pairwise.{both_at, key_at}
use Rattle.ig_text.proofs.Rising.{one_place}
use Rattle.ig_item.specs.Core.{IsAlternative}
use Rattle.ig_item.specs.Items.{Item, first}
use Rattle.ig_item.specs.WellKinded.{IsWellKinded}
use Rattle.ig_item.specs.declared.core_grammar.Nonterminal.{Nonterminal}
use Rattle.ig_item.specs.declared.core_grammar.CoreAlt.{CoreAlt}
use Rattle.ig_item.specs.declared.items.Instance.{Instance}
use Rattle.ig_forest_tables.specs.Forest as forest
use Rattle.ig_forest_tables.specs.Forest.{Forest, ItemNode}
use Rattle.ig_forest_tables.specs.Unfold as ways
use Rattle.ig_forest_tables.specs.Unfold.{OfNode, OfItem, noted}
use Rattle.ig_item.specs.Gives as rules
use Rattle.ig_item.specs.Gives.{NodeKey}
use Rattle.ig_forest_live.specs.Live.{Gives}
use Rattle.ig_forest_tables.specs.Orders.{item_cmp, node_cmp, choice_cmp, entry_cmp}
use Rattle.ig_forest.specs.Reduced.{IsReduced, IsChoice}
use Rattle.ig_forest.specs.Laws.{HasOneCursor}
use Rattle.ig_forest_tables.specs.declared.entry.Choice.{Choice}
use Rattle.ig_forest_tables.specs.declared.entry.Entry.{Entry}
use Rattle.ig_forest_tables.specs.declared.entry.Entry.TheVariants.{Begin, Pass, Take}
use Rattle.ig_forest_tables.specs.declared.entry.Child.TheVariants as child
use Rattle.ig_forest.proofs.Given.{Given}
use Rattle.ig_item.specs.ItemTrees as reached
use Rattle.ig_item.specs.ItemTrees.{Comes}
use Rattle.ig_forest.proofs.TotalOrders.{item_total, node_total, choice_total, entry_total}
use Rattle.ig_forest.proofs.Liveness.{live_is_reachable}
use Rattle.ig_forest.proofs.Steps.{given_dot, begin_only, pass_only, leaf_only, node_only, Passed, TookLeaf, TookNode}
use Rattle.ig_forest.proofs.Targets.{Alike, alike_before, same_form, same_target, one_callee}
use Rattle.ig_forest.proofs.Unfolding.{live_at}

same_span : (s r : Span) → Leaf s.begin s.end ≡ Leaf r.begin r.end → s ≡ r
same_span s r e =
    let begin : s.begin ≡ r.begin = cc in
    let end : s.end ≡ r.end = cc in λ i. record { begin = begin i; end = end i }

abbrev end_of_tree : Tree → ℕ
end_of_tree (Leaf i j) = j
end_of_tree (Node tag i j ts) = j

pub record NodeParts (a b : Tag) (ts us : Trees) : Type 0 where
  pub tag : a ≡ b
  pub children : ts ≡ us

pub node_parts : (a b : Tag) (i j h k : ℕ) (ts us : Trees) → Node a i j ts ≡ Node b h k us → NodeParts a b ts us
node_parts a b i j h k ts us e = record { tag = cc; children = cc }

module _ (core : List Nonterminal) (text : Input) where
  first_is : {x : Item} {ts : Trees} → Comes core text x ts → x.dot ≡ 0 → x ≡ first x.instance x.alternative
  first_is (reached.begin instance a x e) dot = e ∙ sym (ap (λ (y : Item). first y.instance y.alternative) e)
  first_is (reached.further it bound j ts us vs x comes passes is joins) dot =
      let further : x.dot ≡ suc it.dot = ap (λ (y : Item). y.dot) is in absurd (omega arith)

module _ (given : Given) (core : List Nonterminal) (text : Input) (f : Forest) (r : IsReduced core text f)
    (w : IsWellKinded core) where
  -- an item's place, with one entry of it, and what the cursor has behind that choice
  pub record Entered (k : ℕ) (entry : Entry) (rest cs : List ℕ) : Type 0 where
    pub it : ItemNode
    pub there : slice_get f.items k ≡ Some it
    pub i : ℕ
    pub among : slice_get it.entries i ≡ Some entry
    pub cursor : cs ≡ noted (length it.entries) i ++ rest

  pub item_number : (k m : ℕ) (x y : Item) → slice_get r.items k ≡ Some x → slice_get r.items m ≡ Some y → x ≡ y → k ≡ m
  item_number k m x y at_x at_y same =
      one_place item_cmp item_total r.items k m x r.are_items.order at_x (at_y ∙ ap Some (sym same))

  pub same_item : (k m : ℕ) (x y : Item) → slice_get r.items k ≡ Some x → slice_get r.items m ≡ Some y → k ≡ m → x ≡ y
  same_item k m x y at_x at_y same = same_Some x y (sym at_x ∙ ap (slice_get r.items) same ∙ at_y)

  -- one entry of one item has one place there, so one choice
  same_choice : (k m : ℕ) (x : Item) (it other : ItemNode) (i j : ℕ) (e d : Entry) → slice_get r.items k ≡ Some x →
      slice_get f.items k ≡ Some it → slice_get f.items m ≡ Some other → slice_get it.entries i ≡ Some e →
      slice_get other.entries j ≡ Some d → k ≡ m → e ≡ d → noted (length it.entries) i ≡ noted (length other.entries) j
  same_choice k m x it other i j e d at there second among beside same alike =
      let one : it ≡ other = same_Some it other (sym there ∙ ap (slice_get f.items) same ∙ second) in
      let n = both_at r.item_nodes k x it at there in
      let place =
      one_place entry_cmp entry_total it.entries i j e n.order among
      (ap (λ (z : ItemNode). slice_get z.entries j) one ∙ beside ∙ ap Some (sym alike)) in
      ap₂ (λ (z : ItemNode) (n : ℕ). noted (length z.entries) n) one place

  finish : (k m : ℕ) (x : Item) (e d : Entry) (rest other cs ds : List ℕ) → slice_get r.items k ≡ Some x → k ≡ m → e ≡ d →
      rest ≡ other → Entered k e rest cs → Entered m d other ds → cs ≡ ds
  finish k m x e d rest other cs ds at same alike behind p q =
      p.cursor ∙
      ap₂ (λ (a b : List ℕ). a ++ b)
      (same_choice k m x p.it q.it p.i q.i e d at p.there q.there p.among q.among same alike) behind ∙ sym q.cursor

  -- what an item behind a step unfolds to, by the form of the step
  pub record ByPass (m e : ℕ) (ds : List ℕ) (us : Trees) (y : Item) : Type 0 where
    pub prev : Item
    pub number : ℕ
    pub at : slice_get r.items number ≡ Some prev
    pub gives : Gives core text prev rules.nothing y
    pub rest : List ℕ
    pub unfolds : OfItem f number e rest us
    pub entered : Entered m (Pass number) rest ds

  pub record ByLeaf (m e : ℕ) (ds : List ℕ) (us : Trees) (y : Item) : Type 0 where
    pub prev : Item
    pub number : ℕ
    pub span : Span
    pub at : slice_get r.items number ≡ Some prev
    pub gives : Gives core text prev (rules.leaf span) y
    pub rest : List ℕ
    pub trees : Trees
    pub unfolds : OfItem f number e rest trees
    pub entered : Entered m (Take number (child.Leaf span)) rest ds
    pub joins : us ≡ join trees (one (Leaf span.begin span.end))

  pub record ByNode (m e : ℕ) (ds : List ℕ) (us : Trees) (y : Item) : Type 0 where
    pub prev : Item
    pub number : ℕ
    pub node : ℕ
    pub key : NodeKey
    pub at : slice_get r.items number ≡ Some prev
    pub at_key : slice_get r.keys node ≡ Some key
    pub gives : Gives core text prev (rules.tree key) y
    pub first : List ℕ
    pub rest : List ℕ
    pub trees : Trees
    pub tree : Tree
    pub unfolds : OfItem f number e first trees
    pub of_node : OfNode f node e rest tree
    pub entered : Entered m (Take number (child.Node node)) (first ++ rest) ds
    pub joins : us ≡ join trees (one tree)

  pub pass_entry : (k i prev : ℕ) (it : ItemNode) (x : Item) → slice_get r.items k ≡ Some x → slice_get f.items k ≡ Some it →
      slice_get it.entries i ≡ Some (Pass prev) → Passed core text r.items r.keys x prev
  pass_entry k i prev it x has at among =
      let n = both_at r.item_nodes k x it has at in
      pass_only core text r.items r.keys ((n.entries (Pass prev)).0 (contains_from_at it.entries i (Pass prev) among)) prev
      refl

  pub leaf_entry : (k i prev : ℕ) (span : Span) (it : ItemNode) (x : Item) → slice_get r.items k ≡ Some x →
      slice_get f.items k ≡ Some it → slice_get it.entries i ≡ Some (Take prev (child.Leaf span)) →
      TookLeaf core text r.items r.keys x prev span
  leaf_entry k i prev span it x has at among =
      let n = both_at r.item_nodes k x it has at in
      let entry = Take prev (child.Leaf span) in
      leaf_only core text r.items r.keys ((n.entries entry).0 (contains_from_at it.entries i entry among)) prev span refl

  pub node_entry : (k i prev v : ℕ) (it : ItemNode) (x : Item) → slice_get r.items k ≡ Some x → slice_get f.items k ≡ Some it →
      slice_get it.entries i ≡ Some (Take prev (child.Node v)) → TookNode core text r.items r.keys x prev v
  node_entry k i prev v it x has at among =
      let n = both_at r.item_nodes k x it has at in
      let entry = Take prev (child.Node v) in
      node_only core text r.items r.keys ((n.entries entry).0 (contains_from_at it.entries i entry among)) prev v refl

  begin_entry : (k i : ℕ) (it : ItemNode) (x : Item) → slice_get r.items k ≡ Some x → slice_get f.items k ≡ Some it →
      slice_get it.entries i ≡ Some Begin → x.dot ≡ 0
  begin_entry k i it x has at among =
      let n = both_at r.item_nodes k x it has at in
      begin_only core text r.items r.keys ((n.entries Begin).0 (contains_from_at it.entries i Begin among)) refl

  -- the second of two alike items unfolds as the first one does: by its form
  pub as_pass : {m e : ℕ} {ds : List ℕ} {us : Trees} → OfItem f m e ds us → (p x y : Item) → Gives core text p rules.nothing x →
      Alike x y → slice_get r.items m ≡ Some y → ByPass m e ds us y
  as_pass (ways.begin k d i it cs at among c) p x y g a has =
      let further : x.dot ≡ suc p.dot = given_dot core text g in
      absurd (omega (arith, begin_entry k i it y has at among, a.dot))
  as_pass (ways.pass k d i prev it bs cs ts at among of_prev c) p x y g a has =
      let h = pass_entry k i prev it y has at among in
      record {
        prev = h.prev;
        number = prev;
        at = h.at;
        gives = h.gives;
        rest = bs;
        unfolds = of_prev;
        entered = record { it = it; there = at; i = i; among = among; cursor = c };
      }
  as_pass (ways.leaf k d i prev it span bs cs ts us at among of_prev c is) p x y g a has =
      let h = leaf_entry k i prev span it y has at among in
      absurd (omega (arith, same_form core text given g h.gives (alike_before core text g h.gives a)))
  as_pass (ways.node k d i prev v it ps bs cs ts us t at among of_prev of_node c is) p x y g a has =
      let h = node_entry k i prev v it y has at among in
      absurd (omega (arith, same_form core text given g h.gives (alike_before core text g h.gives a)))

  pub as_leaf : {m e : ℕ} {ds : List ℕ} {us : Trees} → OfItem f m e ds us → (span : Span) (p x y : Item) →
      Gives core text p (rules.leaf span) x → Alike x y → slice_get r.items m ≡ Some y → ByLeaf m e ds us y
  as_leaf (ways.begin k d i it cs at among c) span p x y g a has =
      let further : x.dot ≡ suc p.dot = given_dot core text g in
      absurd (omega (arith, begin_entry k i it y has at among, a.dot))
  as_leaf (ways.pass k d i prev it bs cs ts at among of_prev c) span p x y g a has =
      let h = pass_entry k i prev it y has at among in
      absurd (omega (arith, same_form core text given g h.gives (alike_before core text g h.gives a)))
  as_leaf (ways.leaf k d i prev it own bs cs ts us at among of_prev c is) span p x y g a has =
      let h = leaf_entry k i prev own it y has at among in
      record {
        prev = h.prev;
        number = prev;
        span = own;
        at = h.at;
        gives = h.gives;
        rest = bs;
        trees = ts;
        unfolds = of_prev;
        entered = record { it = it; there = at; i = i; among = among; cursor = c };
        joins = is;
      }
  as_leaf (ways.node k d i prev v it ps bs cs ts us t at among of_prev of_node c is) span p x y g a has =
      let h = node_entry k i prev v it y has at among in
      absurd (omega (arith, same_form core text given g h.gives (alike_before core text g h.gives a)))

  pub as_node : {m e : ℕ} {ds : List ℕ} {us : Trees} → OfItem f m e ds us → (key : NodeKey) (p x y : Item) →
      Gives core text p (rules.tree key) x → Alike x y → slice_get r.items m ≡ Some y → ByNode m e ds us y
  as_node (ways.begin k d i it cs at among c) key p x y g a has =
      let further : x.dot ≡ suc p.dot = given_dot core text g in
      absurd (omega (arith, begin_entry k i it y has at among, a.dot))
  as_node (ways.pass k d i prev it bs cs ts at among of_prev c) key p x y g a has =
      let h = pass_entry k i prev it y has at among in
      absurd (omega (arith, same_form core text given g h.gives (alike_before core text g h.gives a)))
  as_node (ways.leaf k d i prev it own bs cs ts us at among of_prev c is) key p x y g a has =
      let h = leaf_entry k i prev own it y has at among in
      absurd (omega (arith, same_form core text given g h.gives (alike_before core text g h.gives a)))
  as_node (ways.node k d i prev v it ps bs cs ts us t at among of_prev of_node c is) key p x y g a has =
      let h = node_entry k i prev v it y has at among in
      record {
        prev = h.prev;
        number = prev;
        node = v;
        key = h.key;
        at = h.at;
        at_key = h.at_key;
        gives = h.gives;
        first = ps;
        rest = bs;
        trees = ts;
        tree = t;
        unfolds = of_prev;
        of_node = of_node;
        entered = record { it = it; there = at; i = i; among = among; cursor = c };
        joins = is;
      }

  -- a tree of a node ends where the node does
  ends_at : {v d : ℕ} {cs : List ℕ} {t : Tree} → OfNode f v d cs t → (key : NodeKey) → slice_get r.keys v ≡ Some key →
      end_of_tree t ≡ key.end
  ends_at (ways.choose v d i n choice bs cs ts t at among of_item c is) key has =
      let nd = both_at r.nodes v key n has at in ap end_of_tree is ∙ nd.end

  -- items at dot 0 that are alike are one, with one entry
  pub as_begin : {m e : ℕ} {ds : List ℕ} {us : Trees} → OfItem f m e ds us → (k i : ℕ) (it : ItemNode) (cs : List ℕ) (x y : Item) →
      slice_get f.items k ≡ Some it → slice_get it.entries i ≡ Some Begin → cs ≡ noted (length it.entries) i → Alike x y →
      slice_get r.items k ≡ Some x → slice_get r.items m ≡ Some y → (k ≡ m) × (cs ≡ ds)
  as_begin (ways.begin m e j other ds second beside c) k i it cs x y there among b a has has_y =
      let dot = begin_entry k i it x has there among in
      let dot_y : y.dot ≡ 0 = sym a.dot ∙ dot in
      let of_x = (given.items_by_trees core text x).0 (live_is_reachable core text x (live_at given core text f r k x has)) in
      let of_y = (given.items_by_trees core text y).0 (live_is_reachable core text y (live_at given core text f r m y has_y)) in
      let same : x ≡ y =
      first_is core text of_x.2 dot ∙ (λ i. first (a.instance i) (a.alternative i)) ∙ sym (first_is core text of_y.2 dot_y) in
      let number = item_number k m x y has has_y same in
      (number, b ∙ same_choice k m x it other i j Begin Begin has there second among beside number refl ∙ sym c)
  as_begin (ways.pass m e j prev other bs ds ts second beside of_prev c) k i it cs x y there among b a has has_y =
      let h = pass_entry m j prev other y has_y second beside in
      absurd (omega (arith, begin_entry k i it x has there among, a.dot, given_dot core text h.gives))
  as_begin (ways.leaf m e j prev other span bs ds ts us second beside of_prev c is) k i it cs x y there among b a has has_y =
      let h = leaf_entry m j prev span other y has_y second beside in
      absurd (omega (arith, begin_entry k i it x has there among, a.dot, given_dot core text h.gives))
  as_begin (ways.node m e j prev v other ps bs ds ts us t second beside of_prev of_node c is) k i it cs x y there among b a has has_y =
      let h = node_entry m j prev v other y has_y second beside in
      absurd (omega (arith, begin_entry k i it x has there among, a.dot, given_dot core text h.gives))

  -- the complete items of one node with one tag are alike
  same_tag : (key : NodeKey) (a b : Choice) (p : IsChoice core r.items key a) (q : IsChoice core r.items key b) →
      a.tag ≡ b.tag → Alike p.item q.item
  same_tag key a b p q tags =
      let x = p.completes in
      let y = q.completes in
      let instance : p.item.instance ≡ q.item.instance = x.instance ∙ sym y.instance in
      let at_x : IsAlternative core q.item.instance.nonterminal p.item.alternative x.complete.nonterminal x.complete.alternative =
      subst
      (λ (i : Instance). IsAlternative core i.nonterminal p.item.alternative x.complete.nonterminal x.complete.alternative)
      instance x.complete.has in
      let nonterminal : y.complete.nonterminal ≡ x.complete.nonterminal =
      same_Some y.complete.nonterminal x.complete.nonterminal (sym y.complete.has.there ∙ at_x.there) in
      let at_y : IsAlternative core q.item.instance.nonterminal q.item.alternative x.complete.nonterminal y.complete.alternative =
      subst
      (λ (n : Nonterminal). IsAlternative core q.item.instance.nonterminal q.item.alternative n y.complete.alternative)
      nonterminal y.complete.has in
      let alternative : p.item.alternative ≡ q.item.alternative =
      w.tags q.item.instance.nonterminal q.item.alternative x.complete.nonterminal y.complete.alternative at_y
      p.item.alternative x.complete.alternative at_x (sym p.tagged ∙ tags ∙ q.tagged) in
      let one =
      given.alternatives_one core q.item.instance.nonterminal q.item.alternative x.complete.nonterminal
      x.complete.nonterminal x.complete.alternative y.complete.alternative
      (subst
      (λ (n : ℕ). IsAlternative core q.item.instance.nonterminal n x.complete.nonterminal x.complete.alternative)
      alternative at_x) at_y in
      record {
        instance = instance;
        alternative = alternative;
        dot = x.complete.last ∙ ap (λ (z : CoreAlt). length z.steps) one.alternatives ∙ sym y.complete.last;
      }

  mutual
    one_node : {v d : ℕ} {cs : List ℕ} {t : Tree} → OfNode f v d cs t → (m e : ℕ) (ds : List ℕ) (u : Tree) →
        OfNode f m e ds u → v ≡ m → t ≡ u → cs ≡ ds
    one_node (ways.choose v d i n choice bs cs ts t at among of_item c is) _ _ _ _ (ways.choose m e j other second hs ds us u beside between of_other b as') same alike =
        let one : n ≡ other = same_Some n other (sym at ∙ ap (slice_get f.nodes) same ∙ beside) in
        let key = key_at r.nodes v n at in
        let p = (key.2.choices choice).0 (contains_from_at n.alternatives i choice among) in
        let between_n : slice_get n.alternatives j ≡ Some second =
        ap (λ (z : forest.Node). slice_get z.alternatives j) one ∙ between in
        let q = (key.2.choices second).0 (contains_from_at n.alternatives j second between_n) in
        let parts = node_parts choice.tag second.tag n.span.begin n.span.end other.span.begin other.span.end ts us (sym is ∙ alike ∙ as') in
        let a = same_tag key.0 choice second p q parts.tag in
        let h = one_item of_item second.item e hs us of_other p.item q.item p.numbered q.numbered parts.children a in
        let chosen : choice ≡ second = (λ i. record { tag = parts.tag i; item = h.0 i }) in
        let place =
        one_place choice_cmp choice_total n.alternatives i j choice key.2.order among (between_n ∙ ap Some (sym chosen)) in
        c ∙
        ap₂ (λ (x y : List ℕ). x ++ y)
        (ap₂ (λ (z : forest.Node) (k : ℕ). noted (length z.alternatives) k) one place) h.1 ∙ sym b

    one_item : {k d : ℕ} {cs : List ℕ} {ts : Trees} → OfItem f k d cs ts → (m e : ℕ) (ds : List ℕ) (us : Trees) →
        OfItem f m e ds us → (x y : Item) → slice_get r.items k ≡ Some x → slice_get r.items m ≡ Some y → ts ≡ us →
        Alike x y → (k ≡ m) × (cs ≡ ds)
    one_item (ways.begin k d i it cs at among c) m e ds us other x y has has_y same a =
        as_begin other k i it cs x y at among c a has has_y
    one_item (ways.pass k d i prev it bs cs ts at among of_prev c) m e ds us other x y has has_y same a =
        let p = pass_entry k i prev it x has at among in
        let s = as_pass other p.prev x y p.gives a has_y in
        let h =
        one_item of_prev s.number e s.rest us s.unfolds p.prev s.prev p.at s.at same
        (alike_before core text p.gives s.gives a) in
        let prevs = same_item prev s.number p.prev s.prev p.at s.at h.0 in
        let target : x ≡ y =
        same_target core text given p.gives
        (subst (λ (z : Item). Gives core text z rules.nothing y) (sym prevs) s.gives) in
        let number = item_number k m x y has has_y target in
        let entered : Entered k (Pass prev) bs cs = record { it = it; there = at; i = i; among = among; cursor = c } in
        (number, finish k m x (Pass prev) (Pass s.number) bs s.rest cs ds has number (ap Pass h.0) h.1 entered s.entered)
    one_item (ways.leaf k d i prev it span bs cs ts zs at among of_prev c is) m e ds us other x y has has_y same a =
        let p = leaf_entry k i prev span it x has at among in
        let s = as_leaf other span p.prev x y p.gives a has_y in
        let parts =
        parted ts s.trees (Leaf span.begin span.end) (Leaf s.span.begin s.span.end) (sym is ∙ same ∙ s.joins) in
        let h =
        one_item of_prev s.number e s.rest s.trees s.unfolds p.prev s.prev p.at s.at parts.before
        (alike_before core text p.gives s.gives a) in
        let prevs = same_item prev s.number p.prev s.prev p.at s.at h.0 in
        let spans = same_span span s.span parts.last in
        let target : x ≡ y =
        same_target core text given p.gives
        (subst₂ (λ (z : Item) (t : Span). Gives core text z (rules.leaf t) y) (sym prevs) (sym spans) s.gives) in
        let number = item_number k m x y has has_y target in
        let entry = Take prev (child.Leaf span) in
        let entered : Entered k entry bs cs = record { it = it; there = at; i = i; among = among; cursor = c } in (
          number,
          finish k m x entry (Take s.number (child.Leaf s.span)) bs s.rest cs ds has number
              (λ i. Take (h.0 i) (child.Leaf (spans i))) h.1 entered s.entered,
        )
    one_item (ways.node k d i prev v it ps bs cs ts zs t at among of_prev of_node c is) m e ds us other x y has has_y same a =
        let p = node_entry k i prev v it x has at among in
        let s = as_node other p.key p.prev x y p.gives a has_y in
        let parts = parted ts s.trees t s.tree (sym is ∙ same ∙ s.joins) in
        let h =
        one_item of_prev s.number e s.first s.trees s.unfolds p.prev s.prev p.at s.at parts.before
        (alike_before core text p.gives s.gives a) in
        let prevs = same_item prev s.number p.prev s.prev p.at s.at h.0 in
        let gives = subst (λ (z : Item). Gives core text z (rules.tree s.key) y) (sym prevs) s.gives in
        let callee = one_callee core text given p.key s.key p.gives gives in
        let end : p.key.end ≡ s.key.end =
        sym (ends_at of_node p.key p.at_key) ∙ ap end_of_tree parts.last ∙ ends_at s.of_node s.key s.at_key in
        let keys : p.key ≡ s.key = (λ i. record { instance = callee i; end = end i }) in
        let node = one_place node_cmp node_total r.keys v s.node p.key r.are_nodes.order p.at_key (s.at_key ∙ ap Some (sym keys)) in
        let target : x ≡ y =
        same_target core text given p.gives (subst (λ (z : NodeKey). Gives core text p.prev (rules.tree z) y) (sym keys) gives) in
        let number = item_number k m x y has has_y target in
        let inside = one_node of_node s.node e s.rest s.tree s.of_node node parts.last in
        let entry = Take prev (child.Node v) in
        let entered : Entered k entry (ps ++ bs) cs = record { it = it; there = at; i = i; among = among; cursor = c } in (
          number,
          finish k m x entry (Take s.number (child.Node s.node)) (ps ++ bs) (s.first ++ s.rest) cs ds has number
              (λ i. Take (h.0 i) (child.Node (node i))) (ap₂ (λ (a b : List ℕ). a ++ b) h.1 inside) entered s.entered,
        )

pub one_cursor : Given → HasOneCursor
one_cursor given core text f d e cs ds t w r one other =
    one_node given core text f r w one f.root e ds t other refl refl
