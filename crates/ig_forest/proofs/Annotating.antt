-- Trees with the values that are bound in them, item by item.
use Rattle.std.proofs.lemmas.Option.{same_Some}
use Rattle.std.proofs.Common.{◌≡◌, ℕ, suc, List, [], ◌∷◌, ◌++◌, map, Some, length, take, drop, slice_get, refl, sym, ap, ◌∙◌, subst, subst₂, take_all, le_of_eq}
use Rattle.std.specs.List.{flat_map}
use Rattle.std.specs.declared.cmp.Ordering.TheVariants as ordering
use Rattle.ig_text.specs.Input.{Input}
use Rattle.ig_text.specs.Tree as plain
use Rattle.ig_text.specs.declared.tag.Tag.{Tag}
use Rattle.ig_text.specs.declared.text.Span.{Span}
use Rattle.ig_text.proofs.Lists.{take_step}
use Rattle.ig_text.proofs.Trees.{Parted, parted}
use Rattle.ig_text.proofs.Equal.{same_listed}
use Rattle.ig_expr.specs.Evaluation.{value_of}
use Rattle.ig_expr.specs.TreeOrder.{begin_of, tree_cmp, count_of}
use Rattle.ig_expr.specs.ValuedTree.{Tree, Trees, Leaf, Node, none, one, join, bare_tree, bare_trees}
use Rattle.ig_expr.specs.declared.value.Value.{Value}
use Rattle.ig_expr.specs.JoinedTrees.{join-none}
use Rattle.ig_item.specs.Annotated as annotated
use Rattle.ig_item.specs.Annotated.{Leaves, Within}
use Rattle.ig_item.specs.Core.{IsAlternative}
use Rattle.ig_item.specs.ItemTrees.{Comes}
use Rattle.ig_item.specs.Items.{Item, past, span_of, StandsBefore, IsComplete}
use Rattle.ig_item.specs.Laws.{LeaveInTurn}
use Rattle.ig_item.specs.Step.{Step, Test, Bind, Term, Call, names_of}
use Rattle.ig_item.specs.Visible.{names_at}
use Rattle.ig_item.specs.WellKinded.{IsWellKinded}
use Rattle.ig_item.specs.declared.core_grammar.Nonterminal.{Nonterminal}
use Rattle.ig_item.specs.declared.core_grammar.CoreAlt.{CoreAlt}
use Rattle.ig_item.specs.Gives as rules
use Rattle.ig_item.specs.Gives.{NodeKey, Taken}
use Rattle.ig_forest_live.specs.Live.{Gives}
use Rattle.ig_forest.proofs.Given.{GivenValues}
use Rattle.ig_forest.proofs.Cursors.{node_parts}

-- a leaf has no difference from another one
pub leaf_tied : (a b : Tree) (i j k l : ℕ) → bare_tree a ≡ plain.Leaf i j → bare_tree b ≡ plain.Leaf k l →
    tree_cmp a b ≡ ordering.Equal
leaf_tied (Leaf i1 j1) (Leaf k1 l1) i j k l p q = refl
leaf_tied (Leaf i1 j1) (Node tag bound k1 l1 us) i j k l p q = cc
leaf_tied (Node tag bound i1 j1 ts) b i j k l p q = cc

-- how many trees steps have
abbrev trees_in : List Step → ℕ
trees_in [] = 0
trees_in (Test e ∷ steps) = trees_in steps
trees_in (Bind name e ∷ steps) = trees_in steps
trees_in (Term what label excluded ∷ steps) = suc (trees_in steps)
trees_in (Call callee arguments label excluded ∷ steps) = suc (trees_in steps)

module _ (core : List Nonterminal) (text : Input) where
  -- steps have as many trees, whatever they leave
  counted : {names : List (List ℕ)} {env : List Value} {steps : List Step} {i j : ℕ} {ts : Trees} {after : List Value} →
      Leaves core text names env steps i j ts after → count_of ts ≡ trees_in steps
  counted (annotated.done names env i) = refl
  counted (annotated.test names env e others i j ts after rest) = counted rest
  counted (annotated.bind names env name e v others i j ts after has rest) = counted rest
  counted (annotated.terminal names env what label excluded others i h j ts us after rest is) =
      ap count_of is ∙ ap suc (counted rest)
  counted (annotated.call names env callee arguments label excluded vs others i h j t ts us after have within rest is) =
      ap count_of is ∙ ap suc (counted rest)

  -- the trees before the item's dot, with the values that the steps leave
  pub record Valued (x : Item) (ts : plain.Trees) (zs : Trees) : Type 0 where
    pub nonterminal : Nonterminal
    pub alternative : CoreAlt
    pub has : IsAlternative core x.instance.nonterminal x.alternative nonterminal alternative
    pub to : ℕ
    pub after : List Value
    pub leaves : Leaves core text nonterminal.params x.instance.values (take x.dot alternative.steps) x.instance.start to zs
        after
    pub same : bare_trees zs ≡ ts

  module _ (values : GivenValues) where
    -- the trees of one item are as many
    pub equally_many : (x : Item) (ts us : plain.Trees) (xs ys : Trees) → Valued x ts xs → Valued x us ys →
        count_of xs ≡ count_of ys
    equally_many x ts us xs ys v w =
        let same =
        values.given.alternatives_one core x.instance.nonterminal x.alternative v.nonterminal w.nonterminal v.alternative
        w.alternative v.has w.has in
        counted v.leaves ∙ ap (λ (a : CoreAlt). trees_in (take x.dot a.steps)) same.alternatives ∙ sym (counted w.leaves)

    -- what the steps before an item and its next step leave
    record Turned (p : Item) (names : List (List ℕ)) (step : Step) (us : plain.Trees) (zs : Trees) : Type 0 where
      nonterminal : Nonterminal
      alternative : CoreAlt
      has : IsAlternative core p.instance.nonterminal p.alternative nonterminal alternative
      to : ℕ
      after : List Value
      turn : LeaveInTurn core text nonterminal.params p.instance.values (take p.dot alternative.steps) step p.instance.start to zs
          after
      visible : nonterminal.params ++ flat_map names_of (take p.dot alternative.steps) ≡ names
      same : bare_trees zs ≡ us

    -- what an item behind a step leaves, it leaves in turn
    turned : (p : Item) (names : List (List ℕ)) (step : Step) (bound : List Value) (j : ℕ) (us : plain.Trees) (zs : Trees) →
        StandsBefore core p names step → Valued (past p bound j) us zs → Turned p names step us zs
    turned p names step bound j us zs s v =
        let same =
        values.given.alternatives_one core p.instance.nonterminal p.alternative s.nonterminal v.nonterminal s.alternative
        v.alternative s.has v.has in
        let next : slice_get v.alternative.steps p.dot ≡ Some step =
        ap (λ (a : CoreAlt). slice_get a.steps p.dot) (sym same.alternatives) ∙ s.next in
        record {
          nonterminal = v.nonterminal;
          alternative = v.alternative;
          has = v.has;
          to = v.to;
          after = v.after;
          turn =
              values.in_turn core text v.nonterminal.params p.instance.values (take p.dot v.alternative.steps) step
              p.instance.start v.to zs v.after
              (subst
              (λ (xs : List Step). Leaves core text v.nonterminal.params p.instance.values xs p.instance.start v.to zs v.after)
              (take_step v.alternative.steps p.dot step next) v.leaves);
          visible = (λ i. names_at (sym same.nonterminals i) (sym same.alternatives i) p.dot) ∙ sym s.visible;
          same = v.same;
        }

    -- a step without a tree
    no_tree : (p : Item) (names : List (List ℕ)) (step : Step) (us : plain.Trees) (zs : Trees)
        (t : Turned p names step us zs) → t.turn.vs ≡ none → Valued p us zs
    no_tree p names step us zs t empty =
        let turn = t.turn in
        let whole : zs ≡ turn.us = turn.joined ∙ ap (join turn.us) empty ∙ join-none turn.us in
        record {
          nonterminal = t.nonterminal;
          alternative = t.alternative;
          has = t.has;
          to = turn.h;
          after = turn.between;
          leaves =
              subst
              (λ (ws : Trees).
              Leaves core text t.nonterminal.params p.instance.values (take p.dot t.alternative.steps) p.instance.start turn.h
              ws turn.between)
              (sym whole) turn.first;
          same = t.same;
        }

    -- where a rule takes nothing, what stands behind the step stands before it
    pub by_nothing : {p x : Item} {taken : Taken} → Gives core text p taken x → taken ≡ rules.nothing → (us : plain.Trees)
        (zs : Trees) → Valued x us zs → Valued p us zs
    by_nothing (rules.test p names e x reachable before holds is) f us zs v =
        let t = turned p names (Test e) [] p.position us zs before (subst (λ (y : Item). Valued y us zs) is v) in
        no_tree p names (Test e) us zs t t.turn.alone.1
    by_nothing (rules.bind p names name e w x reachable before has is) f us zs v =
        let t = turned p names (Bind name e) (w ∷ []) p.position us zs before (subst (λ (y : Item). Valued y us zs) is v) in
        no_tree p names (Bind name e) us zs t t.turn.alone.3
    by_nothing (rules.terminal p names what label excluded j taken x reachable before matches free t is) f us zs v = cc
    by_nothing (rules.return p done label excluded key x reachable r calls completes free is) f us zs v = cc

    -- the last tree with its values, and those before it
    pub record Last (p : Item) (ts : plain.Trees) (t : plain.Tree) (zs : Trees) : Type 0 where
      pub others : Trees
      pub tree : Tree
      pub valued : Valued p ts others
      pub joined : zs ≡ join others (one tree)
      pub bare : bare_tree tree ≡ t
      pub here : begin_of tree ≡ p.position

    -- what stands before a step with a tree
    before_last : (p : Item) (names : List (List ℕ)) (step : Step) (ts : plain.Trees) (t : plain.Tree) (zs : Trees) (a : Tree)
        (u : Turned p names step (plain.join ts (plain.one t)) zs) → u.turn.vs ≡ one a →
        Parted (bare_trees u.turn.us) ts (bare_tree a) t
    before_last p names step ts t zs a u single =
        parted (bare_trees u.turn.us) ts (bare_tree a) t
        (ap (λ (ws : Trees). plain.join (bare_trees u.turn.us) (bare_trees ws)) (sym single) ∙ sym u.turn.bare ∙ u.same)

    -- it leaves the environment of the item before the step, at its position
    met : (p : Item) (names : List (List ℕ)) (step : Step) (ts : plain.Trees) (t : plain.Tree) (zs : Trees) (a : Tree)
        (u : Turned p names step (plain.join ts (plain.one t)) zs) → u.turn.vs ≡ one a → Comes core text p ts →
        (u.turn.h ≡ p.position) × (u.turn.between ≡ p.env)
    met p names step ts t zs a u single comes =
        values.environments core text p ts u.nonterminal u.alternative u.turn.h u.turn.us u.turn.between u.has comes
        u.turn.first (before_last p names step ts t zs a u single).before

    -- a step with a tree
    abbrev one_tree : (p : Item) (names : List (List ℕ)) (step : Step) (ts : plain.Trees) (t : plain.Tree) (zs : Trees) (a : Tree)
        (u : Turned p names step (plain.join ts (plain.one t)) zs) → u.turn.vs ≡ one a → Comes core text p ts →
        begin_of a ≡ u.turn.h → Last p ts t zs
    one_tree p names step ts t zs a u single comes begins =
        let turn = u.turn in
        let parts = before_last p names step ts t zs a u single in
        record {
          others = turn.us;
          tree = a;
          valued =
              record {
                nonterminal = u.nonterminal;
                alternative = u.alternative;
                has = u.has;
                to = turn.h;
                after = turn.between;
                leaves = turn.first;
                same = parts.before;
              };
          joined = turn.joined ∙ ap (join turn.us) single;
          bare = parts.last;
          here = begins ∙ (met p names step ts t zs a u single comes).0;
        }

    -- where a rule takes a leaf, the last tree is that leaf
    pub by_leaf : {p x : Item} {taken : Taken} → Gives core text p taken x → (span : Span) → taken ≡ rules.leaf span →
        (ts : plain.Trees) (zs : Trees) → Comes core text p ts →
        Valued x (plain.join ts (plain.one (plain.Leaf span.begin span.end))) zs →
        Last p ts (plain.Leaf span.begin span.end) zs
    by_leaf (rules.test p names e x reachable before holds is) span f ts zs comes v = cc
    by_leaf (rules.bind p names name e w x reachable before has is) span f ts zs comes v = cc
    by_leaf (rules.terminal p names what label excluded j taken x reachable before matches free t is) span f ts zs comes v =
        let us = plain.join ts (plain.one (plain.Leaf span.begin span.end)) in
        let step = Term what label excluded in
        let u =
        turned p names step (span_of label p.position j) j us zs before (subst (λ (y : Item). Valued y us zs) is v) in
        one_tree p names step ts (plain.Leaf span.begin span.end) zs (Leaf u.turn.h u.to) u u.turn.alone.0 comes refl
    by_leaf (rules.return p done label excluded key x reachable r calls completes free is) span f ts zs comes v = cc

    -- the last tree is one of the key's instance
    pub record LastOfKey (p : Item) (ts : plain.Trees) (t : plain.Tree) (zs : Trees) (key : NodeKey) : Type 0 where
      pub last : Last p ts t zs
      pub to : ℕ
      pub within : Within core text key.instance.nonterminal key.instance.values key.instance.start to last.tree

    -- a node begins where its instance does
    begins_within : {n : ℕ} {vs : List Value} {i j : ℕ} {t : Tree} → Within core text n vs i j t → begin_of t ≡ i
    begins_within (annotated.node n a vs nonterminal alternative i j ts after t has leaves is) = ap begin_of is

    -- where a rule takes a tree of a node, the last tree is one of it
    pub by_tree : {p x : Item} {taken : Taken} → Gives core text p taken x → (key : NodeKey) → taken ≡ rules.tree key →
        (ts : plain.Trees) (t : plain.Tree) (zs : Trees) → Comes core text p ts →
        Valued x (plain.join ts (plain.one t)) zs → LastOfKey p ts t zs key
    by_tree (rules.test p names e x reachable before holds is) key f ts t zs comes v = cc
    by_tree (rules.bind p names name e w x reachable before has is) key f ts t zs comes v = cc
    by_tree (rules.terminal p names what label excluded j taken x reachable before matches free g is) key f ts t zs comes v = cc
    by_tree (rules.return p done label excluded own x reachable r calls completes free is) key f ts t zs comes v =
        let same : own ≡ key = cc in
        let us = plain.join ts (plain.one t) in
        let step = Call own.instance.nonterminal calls.arguments label excluded in
        let u =
        turned p calls.names step (span_of label p.position own.end) own.end us zs calls.before
        (subst (λ (y : Item). Valued y us zs) is v) in
        let alone = u.turn.alone in
        let last = one_tree p calls.names step ts t zs alone.1 u alone.4 comes (begins_within alone.3) in
        let meets = met p calls.names step ts t zs alone.1 u alone.4 comes in
        let own_values : alone.0 ≡ own.instance.values =
        same_listed alone.0 own.instance.values
        (sym alone.2 ∙ (λ i. map (value_of text (u.visible i) (meets.1 i) (meets.0 i)) calls.arguments) ∙ calls.values) in
        subst (λ (k : NodeKey). LastOfKey p ts t zs k) same
        (record {
          last = last;
          to = u.to;
          within =
              subst₂ (λ (vs : List Value) (i : ℕ). Within core text own.instance.nonterminal vs i u.to alone.1) own_values
              (meets.0 ∙ sym calls.here) alone.3;
        })

    -- the node of a complete item, with its values
    pub record OfComplete (x : Item) (complete : IsComplete core x) (ts : plain.Trees) (a : Tree) : Type 0 where
      pub children : Trees
      pub to : ℕ
      pub valued : Valued x ts children
      pub is : a ≡ Node complete.alternative.tag (drop (length x.instance.values) x.env) x.instance.start to children

    -- a node with values whose tag is that of a complete item, with the trees of the item, has what the item bound
    pub of_complete : {n : ℕ} {vs : List Value} {i j : ℕ} {a : Tree} → Within core text n vs i j a → IsWellKinded core → (x : Item)
        (complete : IsComplete core x) (tag : Tag) (b e : ℕ) (ts : plain.Trees) → n ≡ x.instance.nonterminal →
        vs ≡ x.instance.values → i ≡ x.instance.start → tag ≡ complete.alternative.tag → Comes core text x ts →
        bare_tree a ≡ plain.Node tag b e ts → OfComplete x complete ts a
    of_complete (annotated.node n k vs nonterminal alternative i j zs after t has leaves is) w x complete tag b e ts of_n
        of_vs of_i tagged comes same =
        let parts = node_parts alternative.tag tag i j b e (bare_trees zs) ts (sym (ap bare_tree is) ∙ same) in
        let number = x.instance.nonterminal in
        let own : IsAlternative core number k nonterminal alternative =
        subst (λ (m : ℕ). IsAlternative core m k nonterminal alternative) of_n has in
        let of_own : nonterminal ≡ complete.nonterminal =
        same_Some nonterminal complete.nonterminal (sym own.there ∙ complete.has.there) in
        let among : IsAlternative core number k complete.nonterminal alternative =
        subst (λ (m : Nonterminal). IsAlternative core number k m alternative) of_own own in
        let numbers : k ≡ x.alternative =
        w.tags number x.alternative complete.nonterminal complete.alternative complete.has k alternative among
        (parts.tag ∙ tagged) in
        let one =
        values.given.alternatives_one core number x.alternative nonterminal complete.nonterminal alternative
        complete.alternative (subst (λ (m : ℕ). IsAlternative core number m nonterminal alternative) numbers own)
        complete.has in
        let there =
        subst₂ (λ (us : List Value) (h : ℕ). Leaves core text nonterminal.params us alternative.steps h j zs after) of_vs of_i
        leaves in
        let found =
        subst₂
        (λ (m : Nonterminal) (l : CoreAlt). Leaves core text m.params x.instance.values l.steps x.instance.start j zs after)
        one.nonterminals one.alternatives there in
        let whole : complete.alternative.steps ≡ take x.dot complete.alternative.steps =
        sym (take_all x.dot complete.alternative.steps (le_of_eq (sym complete.last))) in
        let before =
        subst
        (λ (xs : List Step). Leaves core text complete.nonterminal.params x.instance.values xs x.instance.start j zs after)
        whole found in
        let meets =
        values.environments core text x ts complete.nonterminal complete.alternative j zs after complete.has comes before
        parts.children in
        record {
          children = zs;
          to = j;
          valued =
              record {
                nonterminal = complete.nonterminal;
                alternative = complete.alternative;
                has = complete.has;
                to = j;
                after = after;
                leaves = before;
                same = parts.children;
              };
          is = is ∙ (λ q. Node (one.alternatives q).tag (drop (length (of_vs q)) (meets.1 q)) (of_i q) j zs);
        }
