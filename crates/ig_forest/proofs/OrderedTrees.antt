-- In the reduced forest the cursors of trees are in the order of the trees with their values.
use Rattle.std.proofs.Common.{◌≡◌, ℕ, suc, ◌++◌, List, [], Some, length, drop, slice_get, refl, sym, ap, ap₂, ◌∙◌, subst, subst₂, inl, inr, arith}
use Rattle.std.proofs.lemmas.Bool.{cases_order}
use Rattle.std.proofs.lemmas.List.{append-nil}
use Rattle.std.proofs.lemmas.Map.Lookups.{exact_unsigned}
use Rattle.std.proofs.lemmas.Option.{same_Some, slice_get_within}
use Rattle.std.proofs.Math.Seq.{drop-append_seam}
use Rattle.std.specs.Cmp.Lexicographic.{slice_cmp}
use Rattle.std.specs.Ordering.{nat_cmp, ordering_then}
use Rattle.std.specs.declared.cmp.Ordering.{Ordering}
use Rattle.std.specs.declared.cmp.Ordering.TheVariants as ordering
use Rattle.ig_text.specs.Input.{Input}
use Rattle.ig_text.specs.Tree as plain
use Rattle.ig_text.specs.TagNumber.{number_of}
use Rattle.ig_text.proofs.Lists.{contains_from_at}
use Rattle.ig_text.proofs.Options.{then_assoc, then_nothing}
use Rattle.ig_text.proofs.Pairwise.{both_at}
use Rattle.ig_text.proofs.Rising.{one_place}
use Rattle.ig_text.proofs.Sorted.{equal_number}
use Rattle.ig_expr.specs.TreeOrder.{tree_cmp, children_cmp, count_of}
use Rattle.ig_expr.specs.ValueOrder.{values_cmp}
use Rattle.ig_expr.specs.ValuedTree.{Tree, Trees, none, more, one, join, bare_tree, bare_trees}
use Rattle.ig_expr.specs.declared.value.Value.{Value}
use Rattle.ig_item.specs.Annotated.{Within}
use Rattle.ig_item.specs.Core.{IsAlternative}
use Rattle.ig_item.specs.Items.{Item, IsComplete, Reachable}
use Rattle.ig_item.specs.ItemTrees.{Comes}
use Rattle.ig_item.specs.TagOrder.{TagsRise}
use Rattle.ig_item.specs.Visible.{names_at}
use Rattle.ig_item.specs.WellKinded.{IsWellKinded}
use Rattle.ig_item.specs.declared.core_grammar.Nonterminal.{Nonterminal}
use Rattle.ig_item.specs.declared.core_grammar.CoreAlt.{CoreAlt}
use Rattle.ig_item.specs.declared.items.Instance.{Instance}
use Rattle.ig_forest_tables.specs.Forest as forest
use Rattle.ig_forest_tables.specs.Forest.{Forest, ItemNode}
use Rattle.ig_forest_tables.specs.Unfold as ways
use Rattle.ig_forest_tables.specs.Unfold.{OfNode, OfItem, noted}
use Rattle.ig_item.specs.Gives as rules
use Rattle.ig_item.specs.Gives.{NodeKey, Taken}
use Rattle.ig_forest_live.specs.Live.{Gives}
use Rattle.ig_forest_tables.specs.Orders.{item_cmp, node_cmp, choice_cmp, entry_cmp, previous}
use Rattle.ig_forest.specs.Reduced.{IsReduced, IsChoice}
use Rattle.ig_forest_live.specs.Live.{root_key}
use Rattle.ig_forest.specs.Laws.{CursorsAreOrderedAsTrees}
use Rattle.ig_forest_tables.specs.declared.entry.Choice.{Choice}
use Rattle.ig_forest_tables.specs.declared.entry.Entry.{Entry}
use Rattle.ig_forest_tables.specs.declared.entry.Entry.TheVariants.{Pass, Take}
use Rattle.ig_forest_tables.specs.declared.entry.Child.TheVariants as child
use Rattle.ig_forest.proofs.Annotating.{Valued, Last, OfComplete, leaf_tied, equally_many, by_nothing, by_leaf, by_tree, of_complete}
use Rattle.ig_forest.proofs.Cursors.{Entered, same_item, pass_entry, leaf_entry, node_entry, as_begin, as_pass, as_leaf, as_node}
use Rattle.ig_forest.proofs.Given.{GivenValues}
use Rattle.ig_forest.proofs.Liveness.{live_is_reachable}
use Rattle.ig_forest.proofs.Targets.{Alike, alike_before, stepped, one_callee, end_of}
use Rattle.ig_forest.proofs.TotalOrders.{item_total, node_total, choice_total, entry_total}
use Rattle.ig_forest.proofs.Unfolding.{live_at, item_trees}
use Rattle.ig_forest.proofs.CursorOrders.{decides, passed, places_cmp, Compared, chosen_cmp, joined_cmp, same_cmp, values_append, less_cmp, cmp_less, same_beginning, alike_cmp, beside_cmp}

-- trees without a tree, and trees that are as many
none_counted : (ts : Trees) → bare_trees ts ≡ plain.none → ts ≡ none
none_counted none e = refl
none_counted (more t ts) e = cc

as_many : (ts us : Trees) → ts ≡ none → count_of ts ≡ count_of us → us ≡ none
as_many ts none e same = refl
as_many ts (more u us) e same = let zero : count_of ts ≡ 0 = ap count_of e in absurd (omega (arith, zero, same))

-- one more tree
count_last : (ts : Trees) (t : Tree) → count_of (join ts (one t)) ≡ suc (count_of ts)
count_last none t = refl
count_last (more s ts) t = ap suc (count_last ts t)

-- an item is like itself
self_alike : (x : Item) → Alike x x
self_alike x = record { instance = refl; alternative = refl; dot = refl }

module _ (values : GivenValues) (core : List Nonterminal) (text : Input) (f : Forest) (r : IsReduced core text f)
    (w : IsWellKinded core) (rise : TagsRise core) where
  -- items of the forest are reachable
  reachable_at : (k : ℕ) (x : Item) → slice_get r.items k ≡ Some x → Reachable core text x
  reachable_at k x at = live_is_reachable core text x (live_at values.given core text f r k x at)

  -- the previous items of one item have one environment
  one_environment : {p q x : Item} {taken other : Taken} → Gives core text p taken x → Gives core text q other x →
      Reachable core text p → Reachable core text q → Alike p q → p.env ≡ q.env
  one_environment {p = p} {q = q} {x = x} {taken = taken} {other = other} g h reached found a =
      let first = values.fit core text p w reached in
      let second = values.fit core text q w found in
      let at : IsAlternative core p.instance.nonterminal p.alternative second.nonterminal second.alternative =
      subst₂ (λ (i : Instance) (k : ℕ). IsAlternative core i.nonterminal k second.nonterminal second.alternative)
      (sym a.instance) (sym a.alternative) second.has in
      let same =
      values.given.alternatives_one core p.instance.nonterminal p.alternative first.nonterminal second.nonterminal
      first.alternative second.alternative first.has at in
      let long : length p.env ≡ length q.env =
      first.names ∙ (λ i. length (names_at (same.nonterminals i) (same.alternatives i) (a.dot i))) ∙ sym second.names in
      let whole = sym (ap (λ (y : Item). y.env) (stepped core text g).is) ∙ ap (λ (y : Item). y.env) (stepped core text h).is in
      same_beginning p.env q.env _ _ long whole

  -- of two cursors of an item the positions of the previous items decide first
  entered_cmp : (k number other : ℕ) (x p q : Item) (e d : Entry) (bs gs cs ds : List ℕ) (later : Ordering)
      {taken given : Taken} → slice_get r.items k ≡ Some x → slice_get r.items number ≡ Some p →
      slice_get r.items other ≡ Some q → Gives core text p taken x → Gives core text q given x → previous e ≡ number →
      previous d ≡ other → Entered values.given core text f r w k e bs cs → Entered values.given core text f r w k d gs ds →
      (number ≡ other → p ≡ q → Compared bs gs later) → Compared cs ds (ordering_then (nat_cmp p.position q.position) later)
  entered_cmp k number other x p q e d bs gs cs ds later at at_p at_q g h of_e of_d m n same =
      let alike = alike_before core text g h (self_alike x) in
      let env = one_environment g h (reachable_at number p at_p) (reachable_at other q at_q) alike in
      let it = both_at r.item_nodes k x m.it at m.there in
      let one : n.it ≡ m.it = same_Some n.it m.it (sym n.there ∙ m.there) in
      let among : slice_get m.it.entries n.i ≡ Some d =
      ap (λ (z : ItemNode). slice_get z.entries n.i) (sym one) ∙ n.among in
      let many = length m.it.entries in
      let numbers : nat_cmp m.i n.i ≡ nat_cmp number other =
      places_cmp entry_cmp entry_total m.it.entries m.i n.i e d it.order m.among among ∙ ap₂ nat_cmp of_e of_d in
      let positions : nat_cmp number other ≡ nat_cmp p.position q.position =
      places_cmp item_cmp item_total r.items number other p q r.are_items.order at_p at_q ∙ alike_cmp p q alike env in
      chosen_cmp many m.i n.i bs gs cs ds (nat_cmp p.position q.position) later
      (slice_get_within m.it.entries m.i e m.among) (slice_get_within m.it.entries n.i d among) m.cursor
      (n.cursor ∙ ap (λ (z : ItemNode). noted (length z.entries) n.i ++ gs) one) (numbers ∙ positions)
      (λ z.
      let number_is = exact_unsigned number other (sym numbers ∙ equal_number m.i n.i z) in
      same number_is (same_item values.given core text f r w number other p q at_p at_q number_is))

  -- to where a rule leads
  comes_to : {p x : Item} {taken : Taken} → Gives core text p taken x → x.position ≡ end_of p taken
  comes_to g = ap (λ (y : Item). y.position) (stepped core text g).is

  -- an item takes one node to come to another item
  one_key : {p x : Item} (key other : NodeKey) → Gives core text p (rules.tree key) x →
      Gives core text p (rules.tree other) x → key ≡ other
  one_key key other g h =
      let callee = one_callee core text values.given key other g h in
      let end : key.end ≡ other.end = sym (comes_to g) ∙ comes_to h in λ i. record { instance = callee i; end = end i }

  -- alternatives of one nonterminal with one tag number are one
  one_alternative : (x y : Item) (first : IsComplete core x) (second : IsComplete core y) → x.instance ≡ y.instance →
      number_of first.alternative.tag ≡ number_of second.alternative.tag → x.alternative ≡ y.alternative
  one_alternative x y first second instance same =
      let at : IsAlternative core x.instance.nonterminal y.alternative second.nonterminal second.alternative =
      subst (λ (i : Instance). IsAlternative core i.nonterminal y.alternative second.nonterminal second.alternative)
      (sym instance) second.has in
      let one : second.nonterminal ≡ first.nonterminal =
      same_Some second.nonterminal first.nonterminal (sym at.there ∙ first.has.there) in
      let among : IsAlternative core x.instance.nonterminal y.alternative first.nonterminal second.alternative =
      subst (λ (m : Nonterminal). IsAlternative core x.instance.nonterminal y.alternative m second.alternative) one at in
      let n = x.instance.nonterminal in
      elim (cases_order x.alternative y.alternative) [
        | inl e ↦ e
        | inr (inl less) ↦
            let below = rise n x.alternative first.nonterminal first.alternative first.has y.alternative second.alternative among less in
            absurd (omega (arith, below, same))
        | inr (inr greater) ↦
            let below = rise n y.alternative first.nonterminal second.alternative among x.alternative first.alternative first.has greater in
            absurd (omega (arith, below, same))
      ]

  -- an environment without the values of its instance
  bound_behind : (x : Item) → Reachable core text x → x.env ≡ x.instance.values ++ drop (length x.instance.values) x.env
  bound_behind x reachable =
      let grown = values.grow core text x reachable in
      let bound : drop (length x.instance.values) x.env ≡ grown.0 =
      ap (drop (length x.instance.values)) grown.1 ∙ drop-append_seam x.instance.values grown.0 in
      grown.1 ∙ ap (λ (vs : List Value). x.instance.values ++ vs) (sym bound)

  -- complete items of one node with one tag number compare as what their alternative bound
  complete_cmp : (x y : Item) (first : IsComplete core x) (second : IsComplete core y) → Reachable core text x →
      Reachable core text y → x.instance ≡ y.instance → x.position ≡ y.position →
      number_of first.alternative.tag ≡ number_of second.alternative.tag →
      item_cmp x y ≡ values_cmp (drop (length x.instance.values) x.env) (drop (length y.instance.values) y.env)
  complete_cmp x y first second reached found instance position tags =
      let n = x.instance.nonterminal in
      let alternative = one_alternative x y first second instance tags in
      let at : IsAlternative core n y.alternative second.nonterminal second.alternative =
      subst (λ (i : Instance). IsAlternative core i.nonterminal y.alternative second.nonterminal second.alternative)
      (sym instance) second.has in
      let same =
      values.given.alternatives_one core n y.alternative first.nonterminal second.nonterminal first.alternative
      second.alternative (subst (λ (a : ℕ). IsAlternative core n a first.nonterminal first.alternative) alternative first.has) at in
      let dots : x.dot ≡ y.dot = first.last ∙ ap (λ (a : CoreAlt). length a.steps) same.alternatives ∙ sym second.last in
      let own : Item → List Value = λ z. drop (length z.instance.values) z.env in
      let bound : values_cmp x.env y.env ≡ values_cmp (own x) (own y) =
      (λ i. values_cmp (bound_behind x reached i) (bound_behind y found i)) ∙
      ap (λ (j : Instance). values_cmp (x.instance.values ++ own x) (j.values ++ own y)) (sym instance) ∙
      values_append x.instance.values (own x) (own y) in
      beside_cmp x y instance position ∙
      passed (nat_cmp x.alternative y.alternative) (ordering_then (nat_cmp x.dot y.dot) (values_cmp x.env y.env))
      (equal_number x.alternative y.alternative alternative) ∙
      passed (nat_cmp x.dot y.dot) (values_cmp x.env y.env) (equal_number x.dot y.dot dots) ∙ bound

  -- the cursors of children of one item are to each other as the starts of the last ones, the others, and the last ones
  last_cmp : (p q : Item) (ts us : plain.Trees) (t u : plain.Tree) (xs ys : Trees) (cs ds : List ℕ)
      (left : Last core text values p ts t xs) (right : Last core text values q us u ys) → count_of xs ≡ count_of ys →
      Compared cs ds
      (ordering_then (nat_cmp p.position q.position)
      (ordering_then (children_cmp left.others right.others) (tree_cmp left.tree right.tree))) →
      Compared cs ds (children_cmp xs ys)
  last_cmp p q ts us t u xs ys cs ds left right many compared =
      let one_more : suc (count_of left.others) ≡ suc (count_of right.others) =
      sym (count_last left.others left.tree) ∙ sym (ap count_of left.joined) ∙ many ∙ ap count_of right.joined ∙
      count_last right.others right.tree in
      let last = ordering_then (children_cmp left.others right.others) (tree_cmp left.tree right.tree) in
      let children : children_cmp xs ys ≡ ordering_then (nat_cmp p.position q.position) last =
      (λ i. children_cmp (left.joined i) (right.joined i)) ∙
      values.last_child left.others right.others left.tree right.tree (omega (arith, one_more)) ∙
      (λ i. ordering_then (nat_cmp (left.here i) (right.here i)) last) in
      subst (Compared cs ds) (sym children) compared

  -- the tree of a choice, with its values
  valued_choice : (key : NodeKey) (choice : Choice) (p : IsChoice core r.items key choice) {to : ℕ} {a : Tree} →
      Within core text key.instance.nonterminal key.instance.values key.instance.start to a → (begin end : ℕ)
      (ts : plain.Trees) → Comes core text p.item ts → bare_tree a ≡ plain.Node choice.tag begin end ts →
      OfComplete core text values p.item p.completes.complete ts a
  valued_choice key choice p of_a begin end ts comes same =
      let instance : key.instance ≡ p.item.instance = sym p.completes.instance in
      of_complete core text values of_a w p.item p.completes.complete choice.tag begin end ts
      (ap (λ (i : Instance). i.nonterminal) instance) (ap (λ (i : Instance). i.values) instance)
      (ap (λ (i : Instance). i.start) instance) p.tagged comes same

  -- by both unfoldings at once, whatever their depths
  mutual
    -- cursors of one node are to each other as its trees with values
    node_cmps : {v d : ℕ} {cs : List ℕ} {t : plain.Tree} → OfNode f v d cs t → (e : ℕ) (ds : List ℕ) (u : plain.Tree) →
        OfNode f v e ds u → (key : NodeKey) → slice_get r.keys v ≡ Some key → (to end : ℕ) (a b : Tree) →
        Within core text key.instance.nonterminal key.instance.values key.instance.start to a →
        Within core text key.instance.nonterminal key.instance.values key.instance.start end b → bare_tree a ≡ t →
        bare_tree b ≡ u → Compared cs ds (tree_cmp a b)
    node_cmps (ways.choose v d i n choice bs cs ts t at among of_item c is) _ _ _
        (ways.choose _ e j m second hs ds us u beside between of_other g by) key has to end a b of_a of_b same_a same_b =
        let one : n ≡ m = same_Some n m (sym at ∙ beside) in
        let nd = both_at r.nodes v key n has at in
        let p = (nd.choices choice).0 (contains_from_at n.alternatives i choice among) in
        let there : slice_get n.alternatives j ≡ Some second =
        ap (λ (z : forest.Node). slice_get z.alternatives j) one ∙ between in
        let q = (nd.choices second).0 (contains_from_at n.alternatives j second there) in
        let left =
        valued_choice key choice p of_a n.span.begin n.span.end ts
        (item_trees values.given core text f r of_item p.item p.numbered).0 (same_a ∙ is) in
        let right =
        valued_choice key second q of_b m.span.begin m.span.end us
        (item_trees values.given core text f r of_other q.item q.numbered).0 (same_b ∙ by) in
        let x = p.item in
        let y = q.item in
        let tags = nat_cmp (number_of p.completes.complete.alternative.tag) (number_of q.completes.complete.alternative.tag) in
        let bound = values_cmp (drop (length x.instance.values) x.env) (drop (length y.instance.values) y.env) in
        let children = children_cmp left.children right.children in
        let places : nat_cmp i j ≡ ordering_then tags bound =
        places_cmp choice_cmp choice_total n.alternatives i j choice second nd.order among there ∙
        (λ k. ordering_then (nat_cmp (number_of (p.tagged k)) (number_of (q.tagged k))) (nat_cmp choice.item second.item)) ∙
        decides tags (nat_cmp choice.item second.item) bound
        (λ e.
        places_cmp item_cmp item_total r.items choice.item second.item x y r.are_items.order p.numbered q.numbered ∙
        complete_cmp x y p.completes.complete q.completes.complete (reachable_at choice.item x p.numbered)
        (reachable_at second.item y q.numbered) (p.completes.instance ∙ sym q.completes.instance)
        (p.completes.end ∙ sym q.completes.end) (exact_unsigned _ _ e)) in
        let compared : tree_cmp a b ≡ ordering_then (ordering_then tags bound) children =
        (λ k. tree_cmp (left.is k) (right.is k)) ∙ sym (then_assoc tags bound children) in
        subst (Compared cs ds) (sym compared)
        (chosen_cmp (length n.alternatives) i j bs hs cs ds (ordering_then tags bound) children
        (slice_get_within n.alternatives i choice among) (slice_get_within n.alternatives j second there) c
        (g ∙ ap (λ (z : forest.Node). noted (length z.alternatives) j ++ hs) (sym one)) places
        (λ z.
        let chosen : choice ≡ second = same_Some choice second (sym among ∙ ap (slice_get n.alternatives) z ∙ there) in
        let number : choice.item ≡ second.item = ap (λ (k : Choice). k.item) chosen in
        let same = same_item values.given core text f r w choice.item second.item x y p.numbered q.numbered number in
        item_cmps of_item e hs us (subst (λ (k : ℕ). OfItem f k e hs us) (sym number) of_other) x p.numbered left.children
        right.children left.valued (subst (λ (k : Item). Valued core text k us right.children) (sym same) right.valued)))

    -- and cursors of one item as its children with values
    item_cmps : {k d : ℕ} {cs : List ℕ} {ts : plain.Trees} → OfItem f k d cs ts → (e : ℕ) (ds : List ℕ)
        (us : plain.Trees) → OfItem f k e ds us → (x : Item) → slice_get r.items k ≡ Some x → (xs ys : Trees) →
        Valued core text x ts xs → Valued core text x us ys → Compared cs ds (children_cmp xs ys)
    item_cmps (ways.begin k d i it cs at among c) e ds us other x has xs ys va vb =
        let same = as_begin values.given core text f r w other k i it cs x x at among c (self_alike x) has has in
        let first : xs ≡ none = none_counted xs va.same in
        let second : ys ≡ none = as_many xs ys first (equally_many core text values x plain.none us xs ys va vb) in
        subst (Compared cs ds) (sym (λ l. children_cmp (first l) (second l))) (same_cmp cs ds same.1)
    item_cmps (ways.pass k d i prev it gs cs ts at among of_prev c) e ds us other x has xs ys va vb =
        let p = pass_entry values.given core text f r w k i prev it x has at among in
        let s = as_pass values.given core text f r w other p.prev x x p.gives (self_alike x) has in
        let here : p.prev.position ≡ s.prev.position = sym (comes_to p.gives) ∙ comes_to s.gives in
        let children = children_cmp xs ys in
        subst (Compared cs ds) (passed (nat_cmp p.prev.position s.prev.position) children (equal_number p.prev.position s.prev.position here))
        (entered_cmp k prev s.number x p.prev s.prev (Pass prev) (Pass s.number) gs s.rest cs ds children has p.at s.at p.gives
        s.gives refl refl (record { it = it; there = at; i = i; among = among; cursor = c }) s.entered
        (λ number same.
        item_cmps of_prev e s.rest us (subst (λ (m : ℕ). OfItem f m e s.rest us) (sym number) s.unfolds) p.prev p.at xs ys
        (by_nothing core text values p.gives refl ts xs va)
        (subst (λ (m : Item). Valued core text m us ys) (sym same) (by_nothing core text values s.gives refl us ys vb))))
    item_cmps (ways.leaf k d i prev it span gs cs ts zs at among of_prev c is) e ds us other x has xs ys va vb =
        let p = leaf_entry values.given core text f r w k i prev span it x has at among in
        let s = as_leaf values.given core text f r w other span p.prev x x p.gives (self_alike x) has in
        let left =
        by_leaf core text values p.gives span refl ts xs (item_trees values.given core text f r of_prev p.prev p.at).0
        (subst (λ (ws : plain.Trees). Valued core text x ws xs) is va) in
        let right =
        by_leaf core text values s.gives s.span refl s.trees ys
        (item_trees values.given core text f r s.unfolds s.prev s.at).0
        (subst (λ (ws : plain.Trees). Valued core text x ws ys) s.joins vb) in
        let before = children_cmp left.others right.others in
        let last = tree_cmp left.tree right.tree in
        let leaves : last ≡ ordering.Equal =
        leaf_tied left.tree right.tree span.begin span.end s.span.begin s.span.end left.bare right.bare in
        last_cmp p.prev s.prev ts s.trees (plain.Leaf span.begin span.end) (plain.Leaf s.span.begin s.span.end) xs ys cs ds left
        right (equally_many core text values x zs us xs ys va vb)
        (entered_cmp k prev s.number x p.prev s.prev (Take prev (child.Leaf span)) (Take s.number (child.Leaf s.span)) gs s.rest
        cs ds (ordering_then before last) has p.at s.at p.gives s.gives refl refl
        (record { it = it; there = at; i = i; among = among; cursor = c }) s.entered
        (λ number same.
        subst (Compared gs s.rest) (sym (ap (ordering_then before) leaves ∙ then_nothing before))
        (item_cmps of_prev e s.rest s.trees (subst (λ (m : ℕ). OfItem f m e s.rest s.trees) (sym number) s.unfolds) p.prev p.at
        left.others right.others left.valued
        (subst (λ (m : Item). Valued core text m s.trees right.others) (sym same) right.valued))))
    item_cmps (ways.node k d i prev v it ps gs cs ts zs t at among of_prev of_node c is) e ds us other x has xs ys va vb =
        let p = node_entry values.given core text f r w k i prev v it x has at among in
        let s = as_node values.given core text f r w other p.key p.prev x x p.gives (self_alike x) has in
        let first =
        by_tree core text values p.gives p.key refl ts t xs (item_trees values.given core text f r of_prev p.prev p.at).0
        (subst (λ (ws : plain.Trees). Valued core text x ws xs) is va) in
        let second =
        by_tree core text values s.gives s.key refl s.trees s.tree ys
        (item_trees values.given core text f r s.unfolds s.prev s.at).0
        (subst (λ (ws : plain.Trees). Valued core text x ws ys) s.joins vb) in
        let left = first.last in
        let right = second.last in
        let before = children_cmp left.others right.others in
        let last = tree_cmp left.tree right.tree in
        last_cmp p.prev s.prev ts s.trees t s.tree xs ys cs ds left right (equally_many core text values x zs us xs ys va vb)
        (entered_cmp k prev s.number x p.prev s.prev (Take prev (child.Node v)) (Take s.number (child.Node s.node)) (ps ++ gs)
        (s.first ++ s.rest) cs ds (ordering_then before last) has p.at s.at p.gives s.gives refl refl
        (record { it = it; there = at; i = i; among = among; cursor = c }) s.entered
        (λ number same.
        let keys =
        one_key p.key s.key p.gives (subst (λ (m : Item). Gives core text m (rules.tree s.key) x) (sym same) s.gives) in
        let node =
        one_place node_cmp node_total r.keys v s.node p.key r.are_nodes.order p.at_key (s.at_key ∙ ap Some (sym keys)) in
        joined_cmp ps s.first gs s.rest before last
        (item_cmps of_prev e s.first s.trees (subst (λ (m : ℕ). OfItem f m e s.first s.trees) (sym number) s.unfolds) p.prev
        p.at left.others right.others left.valued
        (subst (λ (m : Item). Valued core text m s.trees right.others) (sym same) right.valued))
        (node_cmps of_node e s.rest s.tree (subst (λ (m : ℕ). OfNode f m e s.rest s.tree) (sym node) s.of_node) p.key p.at_key
        first.to second.to left.tree right.tree first.within
        (subst
        (λ (m : NodeKey). Within core text m.instance.nonterminal m.instance.values m.instance.start second.to right.tree)
        (sym keys) second.within) left.bare right.bare)))

pub ordered_trees : GivenValues → CursorsAreOrderedAsTrees
ordered_trees values core text f d e cs ds t u a b w rise r one other of_a of_b =
    let compared =
    node_cmps values core text f r w rise one e ds u other (root_key text) r.root (length text.characters) (length text.characters) a b of_a.within
    of_b.within of_a.same of_b.same [] [] in
    let same : slice_cmp nat_cmp cs ds ≡ tree_cmp a b =
    sym (ap₂ (slice_cmp nat_cmp) (append-nil cs) (append-nil ds)) ∙ compared ∙ then_nothing (tree_cmp a b) in
    (λ less. sym same ∙ less_cmp less, λ is. cmp_less cs ds (same ∙ is))
