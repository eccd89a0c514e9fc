-- The reduced forest unfolds, to a depth, to the core trees that are no higher.
use Rattle.std.proofs.Common.{◌≡◌, ℕ, zero, suc, ◌≤◌, ◌++◌, List, [], ◌∷◌, Option, Some, length, slice_get, refl, sym, ap, ap₂, ◌∙◌, subst, subst₂, arith}
use Rattle.ig_text.specs.Input.{Input}
use Rattle.ig_text.specs.declared.pattern.Pattern.{Pattern}
use Rattle.ig_text.specs.declared.tag.Tag.{Tag}
use Rattle.ig_text.specs.declared.text.Span.{Span}
use Rattle.ig_text.proofs.Trees.{join-none}
use Rattle.ig_text.proofs.Lists.{at_from_contains, contains_from_at}
use Rattle.ig_text.proofs.Pairwise.{both_at, partner}
use Rattle.ig_text.specs.Tree.{Tree, Trees, Leaf, Node, none, one, join, height, greatest_height}
use Rattle.ig_expr.specs.declared.value.Value.{Value}
use Rattle.ig_item.specs.Core.{IsAlternative}
use Rattle.ig_item.specs.CoreTrees.{HasTree}
use Rattle.ig_item.specs.Items as items
use Rattle.ig_item.specs.Items.{Item, first, past, Reachable, Calls, root_instance}
use Rattle.ig_item.specs.WellKinded.{IsWellKinded}
use Rattle.ig_item.specs.declared.core_grammar.Nonterminal.{Nonterminal}
use Rattle.ig_item.specs.declared.core_grammar.CoreAlt.{CoreAlt}
use Rattle.ig_item.specs.declared.items.Instance.{Instance}
use Rattle.ig_forest_tables.specs.Forest.{Forest}
use Rattle.ig_forest_tables.specs.Unfold as ways
use Rattle.ig_forest_tables.specs.Unfold.{OfNode, OfItem, noted}
use Rattle.ig_item.specs.Gives as rules
use Rattle.ig_forest_live.specs.Live as live
use Rattle.ig_item.specs.Gives.{NodeKey, nothing, leaf, tree}
use Rattle.ig_forest_live.specs.Live.{Gives, IsLive}
use Rattle.ig_forest.specs.Reduced as reduced
use Rattle.ig_forest.specs.Reduced.{IsReduced}
use Rattle.ig_forest_live.specs.Live.{root_key}
use Rattle.ig_forest.specs.Laws.{UnfoldsToCoreTrees}
use Rattle.ig_forest_tables.specs.declared.entry.Choice.{Choice}
use Rattle.ig_forest_tables.specs.declared.entry.Entry.TheVariants.{Begin, Pass, Take}
use Rattle.ig_forest_tables.specs.declared.entry.Child.TheVariants as child
use Rattle.ig_forest.proofs.Given.{Given}
use Rattle.ig_item.specs.ItemTrees as reached
use Rattle.ig_item.specs.ItemTrees.{Comes}
use Rattle.ig_forest.proofs.Liveness.{live_is_reachable}
use Rattle.ig_forest.proofs.Steps.{joined_height, parted_height, comes_by_nothing, comes_by_leaf, comes_by_tree, HasKeyTree, begin_only, pass_only, leaf_only, node_only}

same_tree : (a b : Tag) (i j h k : ℕ) (ts : Trees) → a ≡ b → i ≡ h → j ≡ k → Node a i j ts ≡ Node b h k ts
same_tree a b i j h k ts p q r = cc

module _ (core : List Nonterminal) (text : Input) where
  none_first : {x : Item} {ts : Trees} → Comes core text x ts → x.dot ≡ 0 → ts ≡ none
  none_first (reached.begin instance a x e) dot = refl
  none_first (reached.further it bound j ts us vs x comes passes is joins) dot =
      let further : x.dot ≡ suc it.dot = ap (λ (y : Item). y.dot) is in absurd (omega arith)

module _ (given : Given) (core : List Nonterminal) (text : Input) (f : Forest) (r : IsReduced core text f) where
  pub live_at : (k : ℕ) (x : Item) → slice_get r.items k ≡ Some x → IsLive core text x
  live_at k x at = (r.are_items.members x).0 (contains_from_at r.items k x at)

  pub numbered : (x : Item) → IsLive core text x → (k : ℕ) × (slice_get r.items k ≡ Some x)
  numbered x l = at_from_contains r.items x ((r.are_items.members x).1 l)

  first_comes : (x : Item) → IsLive core text x → x.dot ≡ 0 → Comes core text x none
  first_comes x l dot =
      let c = (given.items_by_trees core text x).0 (live_is_reachable core text x l) in
      subst (Comes core text x) (none_first core text c.2 dot) c.2

  mutual
    pub node_trees : {v d : ℕ} {cs : List ℕ} {t : Tree} → OfNode f v d cs t → (key : NodeKey) →
        slice_get r.keys v ≡ Some key → HasKeyTree core text key t × (height t ≤ d)
    node_trees (ways.choose v d i n choice bs cs ts t at among of_item c is) key has =
        let nd = both_at r.nodes v key n has at in
        let ch = (nd.choices choice).0 (contains_from_at n.alternatives i choice among) in
        let b = item_trees of_item ch.item ch.numbered in
        let same : t ≡ Node ch.completes.complete.alternative.tag key.instance.start key.end ts =
        is ∙
        same_tree choice.tag ch.completes.complete.alternative.tag n.span.begin n.span.end key.instance.start key.end ts
        ch.tagged nd.begin nd.end in (
          (given.instance_trees core text key.instance key.end t).1
              (record {
                item = ch.item;
                trees = ts;
                of_instance = ch.completes.instance;
                to = ch.completes.end;
                complete = ch.completes.complete;
                comes = b.0;
                tree = same;
              }),
          subst (λ (z : Tree). height z ≤ suc d) (sym is) (omega (arith, b.1)),
        )

    pub item_trees : {k d : ℕ} {cs : List ℕ} {ts : Trees} → OfItem f k d cs ts → (x : Item) →
        slice_get r.items k ≡ Some x → Comes core text x ts × (greatest_height ts ≤ d)
    item_trees (ways.begin k d i it cs at among c) x has =
        let n = both_at r.item_nodes k x it has at in
        let e = (n.entries Begin).0 (contains_from_at it.entries i Begin among) in
        (first_comes x (live_at k x has) (begin_only core text r.items r.keys e refl), omega arith)
    item_trees (ways.pass k d i prev it bs cs ts at among of_prev c) x has =
        let n = both_at r.item_nodes k x it has at in
        let entry = Pass prev in
        let e = (n.entries entry).0 (contains_from_at it.entries i entry among) in
        let p = pass_only core text r.items r.keys e prev refl in
        let b = item_trees of_prev p.prev p.at in
        (comes_by_nothing core text p.gives refl ts b.0, b.1)
    item_trees (ways.leaf k d i prev it span bs cs ts us at among of_prev c is) x has =
        let n = both_at r.item_nodes k x it has at in
        let entry = Take prev (child.Leaf span) in
        let e = (n.entries entry).0 (contains_from_at it.entries i entry among) in
        let p = leaf_only core text r.items r.keys e prev span refl in
        let b = item_trees of_prev p.prev p.at in (
          subst (Comes core text x) (sym is) (comes_by_leaf core text p.gives span refl ts b.0),
          subst (λ (zs : Trees). greatest_height zs ≤ d) (sym is)
              (joined_height ts (Leaf span.begin span.end) d b.1 (omega arith)),
        )
    item_trees (ways.node k d i prev v it ps bs cs ts us t at among of_prev of_node c is) x has =
        let n = both_at r.item_nodes k x it has at in
        let entry = Take prev (child.Node v) in
        let e = (n.entries entry).0 (contains_from_at it.entries i entry among) in
        let p = node_only core text r.items r.keys e prev v refl in
        let b = item_trees of_prev p.prev p.at in
        let m = node_trees of_node p.key p.at_key in (
          subst (Comes core text x) (sym is) (comes_by_tree core text p.gives p.key refl ts t m.0 b.0),
          subst (λ (zs : Trees). greatest_height zs ≤ d) (sym is) (joined_height ts t d b.1 m.1),
        )

  -- an item of the forest that unfolds to the trees
  pub record Unfolded (x : Item) (d : ℕ) (ts : Trees) : Type 0 where
    pub number : ℕ
    pub cursor : List ℕ
    pub at : slice_get r.items number ≡ Some x
    pub unfolds : OfItem f number d cursor ts

  abbrev pub by_begin : (x : Item) (d : ℕ) → IsLive core text x → x.dot ≡ 0 → Unfolded x d none
  by_begin x d l dot =
      let k = numbered x l in
      let it = partner r.item_nodes k.0 x k.1 in
      let i = at_from_contains it.0.entries Begin ((it.2.entries Begin).1 (reduced.begin Begin dot refl)) in
      record {
        number = k.0;
        cursor = noted (length it.0.entries) i.0;
        at = k.1;
        unfolds = ways.begin k.0 d i.0 it.0 (noted (length it.0.entries) i.0) it.1 i.1 refl;
      }

  abbrev pub by_pass : (prev x : Item) (d : ℕ) (ts : Trees) → Unfolded prev d ts → IsLive core text x →
      Gives core text prev nothing x → Unfolded x d ts
  by_pass prev x d ts u l gives =
      let k = numbered x l in
      let it = partner r.item_nodes k.0 x k.1 in
      let entry = Pass u.number in
      let i =
      at_from_contains it.0.entries entry ((it.2.entries entry).1 (reduced.pass u.number prev entry u.at gives refl)) in
      let cs = noted (length it.0.entries) i.0 ++ u.cursor in
      record {
        number = k.0;
        cursor = cs;
        at = k.1;
        unfolds = ways.pass k.0 d i.0 u.number it.0 u.cursor cs ts it.1 i.1 u.unfolds refl;
      }

  abbrev pub by_leaf : (prev x : Item) (d : ℕ) (ts : Trees) (span : Span) → Unfolded prev d ts → IsLive core text x →
      Gives core text prev (leaf span) x → Unfolded x d (join ts (one (Leaf span.begin span.end)))
  by_leaf prev x d ts span u l gives =
      let k = numbered x l in
      let it = partner r.item_nodes k.0 x k.1 in
      let entry = Take u.number (child.Leaf span) in
      let i =
      at_from_contains it.0.entries entry
      ((it.2.entries entry).1 (reduced.take_leaf u.number prev span entry u.at gives refl)) in
      let cs = noted (length it.0.entries) i.0 ++ u.cursor in
      let us = join ts (one (Leaf span.begin span.end)) in
      record {
        number = k.0;
        cursor = cs;
        at = k.1;
        unfolds = ways.leaf k.0 d i.0 u.number it.0 span u.cursor cs ts us it.1 i.1 u.unfolds refl refl;
      }

  abbrev pub by_tree : (prev x : Item) (d : ℕ) (ts : Trees) (key : NodeKey) (t : Tree) (v : ℕ) (bs : List ℕ) → Unfolded prev d ts →
      IsLive core text x → Gives core text prev (tree key) x → slice_get r.keys v ≡ Some key → OfNode f v d bs t →
      Unfolded x d (join ts (one t))
  by_tree prev x d ts key t v bs u l gives at_v of_node =
      let k = numbered x l in
      let it = partner r.item_nodes k.0 x k.1 in
      let entry = Take u.number (child.Node v) in
      let i =
      at_from_contains it.0.entries entry
      ((it.2.entries entry).1 (reduced.take_node u.number v prev key entry u.at at_v gives refl)) in
      let cs = noted (length it.0.entries) i.0 ++ (u.cursor ++ bs) in
      let us = join ts (one t) in
      record {
        number = k.0;
        cursor = cs;
        at = k.1;
        unfolds = ways.node k.0 d i.0 u.number v it.0 u.cursor bs cs ts us t it.1 i.1 u.unfolds of_node refl refl;
      }

  -- a complete item of the forest, whose trees are those of one of its node's
  abbrev pub chosen : (x : Item) (key : NodeKey) (d : ℕ) (ts : Trees) (t : Tree) (c : rules.Completes core x key) →
      t ≡ Node c.complete.alternative.tag key.instance.start key.end ts → Unfolded x d ts → (v : ℕ) →
      slice_get r.keys v ≡ Some key → (cs : List ℕ) × OfNode f v (suc d) cs t
  chosen x key d ts t c e u v has =
      let n = partner r.nodes v key has in
      let choice : Choice = record { tag = c.complete.alternative.tag; item = u.number } in
      let i =
      at_from_contains n.0.alternatives choice
      ((n.2.choices choice).1 (record { item = x; numbered = u.at; completes = c; tagged = refl })) in
      let cs = noted (length n.0.alternatives) i.0 ++ u.cursor in (
        cs,
        ways.choose v d i.0 n.0 choice u.cursor cs ts t n.1 i.1 u.unfolds refl
            (e ∙ ap₂ (λ (b z : ℕ). Node c.complete.alternative.tag b z ts) (sym n.2.begin) (sym n.2.end)),
      )

  -- the first items of the instance are reachable
  abbrev pub Begun : Instance → Type 0
  Begun instance =
      (a : ℕ) (nonterminal : Nonterminal) (alternative : CoreAlt) →
      IsAlternative core instance.nonterminal a nonterminal alternative → Reachable core text (first instance a)

  -- the reachable complete items of the node are live
  abbrev pub Ended : NodeKey → Type 0
  Ended key = (done : Item) → Reachable core text done → rules.Completes core done key → IsLive core text done

  -- to that depth, nodes unfold to the trees of their instances
  abbrev pub NodesUnfold : ℕ → Type 0
  NodesUnfold d =
      (key : NodeKey) (t : Tree) → HasKeyTree core text key t → height t ≤ d → Begun key.instance → Ended key → (v : ℕ) →
      slice_get r.keys v ≡ Some key → (cs : List ℕ) × OfNode f v d cs t

  begun_of : (instance : Instance) (x : Item) → Begun instance → x.instance ≡ instance → items.IsComplete core x →
      Reachable core text (first x.instance x.alternative)
  begun_of instance x begun same complete =
      subst (λ (i : Instance). Reachable core text (first i x.alternative)) (sym same)
      (begun x.alternative complete.nonterminal complete.alternative
      (subst (λ (i : Instance). IsAlternative core i.nonterminal x.alternative complete.nonterminal complete.alternative)
      same complete.has))

  calls_begin : (it : Item) (callee : Instance) (label : Option (List ℕ)) (excluded : List Pattern) → Reachable core text it →
      Calls core text it callee label excluded → Begun callee
  calls_begin it callee label excluded reachable calls a nonterminal alternative has =
      given.closed core text (first callee a)
      (items.call it callee label excluded nonterminal a alternative (first callee a) reachable calls has refl)

  -- an item before a step that leads to a live item: it is reachable
  stands_reachable : (it x : Item) (ts : Trees) → IsLive core text x → x.instance ≡ it.instance → x.alternative ≡ it.alternative →
      Comes core text it ts → Reachable core text it
  stands_reachable it x ts l of_instance of_alternative comes =
      let c = (given.items_by_trees core text x).0 (live_is_reachable core text x l) in
      (given.items_by_trees core text it).1
      (subst₂ (λ (i : Instance) (a : ℕ). Reachable core text (first i a)) of_instance of_alternative c.0, ts, comes)

  -- a rule gives the item behind a call, and the forest unfolds to the tree of what is called
  record Returned (it x : Item) (key : NodeKey) (d : ℕ) (t : Tree) : Type 0 where
    gives : Gives core text it (tree key) x
    number : ℕ
    at : slice_get r.keys number ≡ Some key
    cursor : List ℕ
    of_node : OfNode f number d cursor t

  module _ (d : ℕ) (below : NodesUnfold d) where
    returned : (it x : Item) (callee : Instance) (label : Option (List ℕ)) (excluded : List Pattern) (t : Tree) (j : ℕ) →
        IsLive core text x → Reachable core text it → Calls core text it callee label excluded →
        HasTree core text callee.nonterminal callee.values callee.start j t → items.MatchesNone text excluded it.position j →
        x ≡ past it (items.span_of label it.position j) j → height t ≤ d →
        Returned it x (record { instance = callee; end = j }) d t
    returned it x callee label excluded t j l reachable calls has free is low =
        let key : NodeKey = record { instance = callee; end = j } in
        let begun = calls_begin it callee label excluded reachable calls in
        let c = (given.instance_trees core text callee j t).0 has in
        let done_reachable =
        (given.items_by_trees core text c.item).1 (begun_of callee c.item begun c.of_instance c.complete, c.trees, c.comes) in
        let completes : rules.Completes core c.item key =
        record { complete = c.complete; instance = c.of_instance; end = c.to } in
        let gives : Gives core text it (tree key) x =
        rules.return it c.item label excluded key x reachable done_reachable calls completes free is in
        let ended : Ended key = λ done reach completes. live.child x it done key l gives reach completes in
        let among =
        (r.are_nodes.members key).1
        (c.item, (r.are_items.members c.item).1 (ended c.item done_reachable completes), completes) in
        let v = at_from_contains r.keys key among in
        let n = below key t has low begun ended v.0 v.1 in
        record { gives = gives; number = v.0; at = v.1; cursor = n.0; of_node = n.1 }

    pub item_unfolds : {x : Item} {ts : Trees} → Comes core text x ts → IsLive core text x → greatest_height ts ≤ d →
        Unfolded x d ts
    item_unfolds (reached.begin instance a x is) l low = by_begin x d l (ap (λ (y : Item). y.dot) is)
    item_unfolds (reached.further it _ j ts us vs x comes (reached.test names e _ before holds here) is joins) l low =
        let reachable = stands_reachable it x ts l (ap (λ (y : Item). y.instance) is) (ap (λ (y : Item). y.alternative) is) comes in
        let gives : Gives core text it nothing x =
        rules.test it names e x reachable before holds (is ∙ ap (past it []) here) in
        let same : vs ≡ ts = joins ∙ join-none ts in
        let low_ts : greatest_height ts ≤ d = subst (λ (zs : Trees). greatest_height zs ≤ d) same low in
        let u = item_unfolds comes (live.previous x it nothing l gives) low_ts in
        subst (Unfolded x d) (sym same) (by_pass it x d ts u l gives)
    item_unfolds (reached.further it _ j ts us vs x comes (reached.bind names name e v _ before has here) is joins) l low =
        let reachable = stands_reachable it x ts l (ap (λ (y : Item). y.instance) is) (ap (λ (y : Item). y.alternative) is) comes in
        let gives : Gives core text it nothing x =
        rules.bind it names name e v x reachable before has (is ∙ ap (past it (v ∷ [])) here) in
        let same : vs ≡ ts = joins ∙ join-none ts in
        let low_ts : greatest_height ts ≤ d = subst (λ (zs : Trees). greatest_height zs ≤ d) same low in
        let u = item_unfolds comes (live.previous x it nothing l gives) low_ts in
        subst (Unfolded x d) (sym same) (by_pass it x d ts u l gives)
    item_unfolds (reached.further it bound j ts us vs x comes (reached.terminal names what label excluded _ _ _ before matches free binds leaves) is joins)
        l low =
        let span : Span = record { begin = it.position; end = j } in
        let reachable = stands_reachable it x ts l (ap (λ (y : Item). y.instance) is) (ap (λ (y : Item). y.alternative) is) comes in
        let gives : Gives core text it (leaf span) x =
        rules.terminal it names what label excluded j (leaf span) x reachable before matches free refl
        (is ∙ ap (λ (b : List Value). past it b j) binds) in
        let same : vs ≡ join ts (one (Leaf it.position j)) = joins ∙ ap (join ts) leaves in
        let lows = parted_height ts (one (Leaf it.position j)) d (subst (λ (zs : Trees). greatest_height zs ≤ d) same low) in
        let u = item_unfolds comes (live.previous x it (leaf span) l gives) lows.0 in
        subst (Unfolded x d) (sym same) (by_leaf it x d ts span u l gives)
    item_unfolds (reached.further it bound j ts us vs x comes (reached.call callee label excluded t _ _ _ calls has free binds grows) is joins)
        l low =
        let reachable = stands_reachable it x ts l (ap (λ (y : Item). y.instance) is) (ap (λ (y : Item). y.alternative) is) comes in
        let same : vs ≡ join ts (one t) = joins ∙ ap (join ts) grows in
        let lows = parted_height ts (one t) d (subst (λ (zs : Trees). greatest_height zs ≤ d) same low) in
        let m =
        returned it x callee label excluded t j l reachable calls has free
        (is ∙ ap (λ (b : List Value). past it b j) binds) (omega (arith, lows.1)) in
        let key : NodeKey = record { instance = callee; end = j } in
        let u = item_unfolds comes (live.previous x it (tree key) l m.gives) lows.0 in
        subst (Unfolded x d) (sym same) (by_tree it x d ts key t m.number m.cursor u l m.gives m.at m.of_node)

  pub nodes_unfold : (d : ℕ) → NodesUnfold d
  nodes_unfold zero key t has low begun ended v at =
      let c = (given.instance_trees core text key.instance key.end t).0 has in
      absurd (omega (arith, ap height c.tree))
  nodes_unfold (suc d) key t has low begun ended v at =
      let c = (given.instance_trees core text key.instance key.end t).0 has in
      let reachable =
      (given.items_by_trees core text c.item).1
      (begun_of key.instance c.item begun c.of_instance c.complete, c.trees, c.comes) in
      let completes : rules.Completes core c.item key =
      record { complete = c.complete; instance = c.of_instance; end = c.to } in
      let low_ts : greatest_height c.trees ≤ d = omega (arith, ap height c.tree) in
      let u =
      item_unfolds d (λ k s h lower b e w at_w. nodes_unfold d k s h lower b e w at_w) c.comes
      (ended c.item reachable completes) low_ts in
      chosen c.item key d c.trees t completes c.tree u v at

  module _ (w : IsWellKinded core) where
    pub root_begun : Begun root_instance
    root_begun a nonterminal alternative has =
        given.alternatives_begin core text root_instance 1 a nonterminal alternative w
        (given.closed core text (first root_instance 1) (items.root (first root_instance 1) refl)) has

    pub root_ended : Ended (root_key text)
    root_ended done reachable c =
        live.root done reachable (record { of_root = c.instance; complete = c.complete }) c.end

pub unfolds_to_core_trees : Given → UnfoldsToCoreTrees
unfolds_to_core_trees given core text f d t w r = (
  λ u. node_trees given core text f r u.1 (root_key text) r.root,
  λ h.
      nodes_unfold given core text f r d (root_key text) t h.0 h.1 (root_begun given core text f r w)
      (root_ended given core text f r w) f.root r.root,
)
