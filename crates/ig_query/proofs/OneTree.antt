-- Where no node has two alternatives and no item node two entries, the root has one tree.
use Rattle.std.proofs.Common.{◌≡◌, ◌⊎◌, inl, inr, ℕ, zero, suc, ◌<◌, ◌≤◌, List, [], ◌∷◌, Some, length, slice_get, refl, sym, ap, ap₂, ◌∙◌, subst, arith}
use Rattle.std.proofs.lemmas.Option.{same_Some, slice_get_within}
use Rattle.ig_text.specs.declared.text.Span.{Span}
use Rattle.ig_text.specs.Tree.{Tree, Trees, Leaf, Node, one, join}
use Rattle.ig_forest_tables.specs.Forest as forest
use Rattle.ig_forest_tables.specs.Forest.{Forest, ItemNode}
use Rattle.ig_forest.specs.Laws.{TrimHasTrees}
use Rattle.ig_forest_tables.specs.Unfold as ways
use Rattle.ig_forest_tables.specs.Unfold.{OfNode, OfItem, IsTrim}
use Rattle.ig_forest_tables.specs.declared.entry.Choice.{Choice}
use Rattle.ig_forest_tables.specs.declared.entry.Entry.{Entry}
use Rattle.ig_forest_tables.specs.declared.entry.Entry.TheVariants.{Begin, Pass, Take}
use Rattle.ig_forest_tables.specs.declared.entry.Child.TheVariants as child
use Rattle.ig_heights.specs.Laws.{DepthsAreHeights}
use Rattle.ig_query.specs.Ambiguity.{IsAmbiguous}
use Rattle.ig_query.specs.InTrees.{HasTwoTrees}
use Rattle.ig_query.specs.Laws.{AmbiguityIsTwoTrees}
use Rattle.ig_query.proofs.Diverging.{two_trees}
use Rattle.ig_query.proofs.Forks.{from_choice}
use Rattle.ig_query.proofs.Uses.{from_fork}

-- some member has the fact that a number is above 1, or none
two_or_not : (n : ℕ) → (1 < n) ⊎ (n ≤ 1)
two_or_not n = grind arith

some_or_none : {X : Type 0} (size : X → ℕ) (xs : List X) →
    ((k : ℕ) × (x : X) × (slice_get xs k ≡ Some x) × (1 < size x)) ⊎ ((k : ℕ) (x : X) → slice_get xs k ≡ Some x → size x ≤ 1)
some_or_none size [] = inr (λ k x e. cc)
some_or_none {X = X} size (x ∷ xs) = by (two_or_not (size x)) (some_or_none size xs)
  where
    all_small : size x ≤ 1 → ((k : ℕ) (y : X) → slice_get xs k ≡ Some y → size y ≤ 1) → (k : ℕ) (y : X) →
        slice_get (x ∷ xs) k ≡ Some y → size y ≤ 1
    all_small small others zero y e = let same : size x ≡ size y = ap size (same_Some x y e) in omega (arith, small, same)
    all_small small others (suc k) y e = others k y e

    by : (1 < size x) ⊎ (size x ≤ 1) →
        ((k : ℕ) × (y : X) × (slice_get xs k ≡ Some y) × (1 < size y)) ⊎ ((k : ℕ) (y : X) → slice_get xs k ≡ Some y → size y ≤ 1) →
        ((k : ℕ) × (y : X) × (slice_get (x ∷ xs) k ≡ Some y) × (1 < size y)) ⊎
        ((k : ℕ) (y : X) → slice_get (x ∷ xs) k ≡ Some y → size y ≤ 1)
    by (inl two) others = inl (0, x, refl, two)
    by (inr small) (inl r) = inl (suc r.0, r.1, r.2, r.3)
    by (inr small) (inr others) = inr (all_small small others)

same_place : {X : Type 0} (xs : List X) (i j : ℕ) (x y : X) → length xs ≤ 1 → slice_get xs i ≡ Some x → slice_get xs j ≡ Some y → x ≡ y
same_place xs i j x y few at there =
    let a = slice_get_within xs i x at in
    let b = slice_get_within xs j y there in
    let same : i ≡ j = omega (arith, a, b, few) in
    same_Some x y (sym at ∙ ap (slice_get xs) same ∙ there)

module _ (f : Forest) (nodes : (v : ℕ) (n : forest.Node) → slice_get f.nodes v ≡ Some n → length n.alternatives ≤ 1)
    (items : (k : ℕ) (it : ItemNode) → slice_get f.items k ≡ Some it → length it.entries ≤ 1) where
  -- what one item node has, by number, has one entry
  same_entry : (k m i j : ℕ) (it other : ItemNode) (e r : Entry) → k ≡ m → slice_get f.items k ≡ Some it →
      slice_get f.items m ≡ Some other → slice_get it.entries i ≡ Some e → slice_get other.entries j ≡ Some r → e ≡ r
  same_entry k m i j it other e r same at there among inside =
      let is : it ≡ other = same_Some it other (sym at ∙ ap (slice_get f.items) same ∙ there) in
      same_place other.entries i j e r (items m other there) (subst (λ (z : ItemNode). slice_get z.entries i ≡ Some e) is among) inside

  same_pass : (p q : ℕ) → Pass p ≡ Pass q → p ≡ q
  same_pass p q e = cc

  same_leaf : (p q : ℕ) (s r : Span) → Take p (child.Leaf s) ≡ Take q (child.Leaf r) → (p ≡ q) × (s ≡ r)
  same_leaf p q s r e = (cc, cc)

  same_node : (p q v w : ℕ) → Take p (child.Node v) ≡ Take q (child.Node w) → (p ≡ q) × (v ≡ w)
  same_node p q v w e = (cc, cc)

  leaf_never_node : (p q v : ℕ) (s : Span) → Take p (child.Leaf s) ≡ Take q (child.Node v) → ⊥
  leaf_never_node p q v s e = cc

  mutual
    one_tree : {v w d e : ℕ} {cs ds : List ℕ} {t u : Tree} → OfNode f v d cs t → OfNode f w e ds u → v ≡ w → t ≡ u
    one_tree (ways.choose v d i n choice bs cs ts t at among of_item c is)
        (ways.choose w e j m other bs' ds us u there inside of_other o are) same =
        let nodes_same : n ≡ m = same_Some n m (sym at ∙ ap (slice_get f.nodes) same ∙ there) in
        let choices_same : choice ≡ other =
        same_place m.alternatives i j choice other (nodes w m there)
        (subst (λ (z : forest.Node). slice_get z.alternatives i ≡ Some choice) nodes_same among) inside in
        let lists : ts ≡ us = one_list of_item of_other (ap (λ (z : Choice). z.item) choices_same) in
        is ∙ ap (λ (z : Choice). Node z.tag n.span.begin n.span.end ts) choices_same ∙
        ap (λ (z : forest.Node). Node other.tag z.span.begin z.span.end ts) nodes_same ∙
        ap (λ (z : Trees). Node other.tag m.span.begin m.span.end z) lists ∙ sym are

    one_list : {k m d e : ℕ} {cs ds : List ℕ} {ts us : Trees} → OfItem f k d cs ts → OfItem f m e ds us → k ≡ m → ts ≡ us
    one_list (ways.begin k d i it cs at among c) (ways.begin m e j other ds there inside o) same = refl
    one_list (ways.begin k d i it cs at among c) (ways.pass m e j prev other bs ds us there inside of_prev o) same =
        let no : Begin ≡ Pass prev = same_entry k m i j it other Begin (Pass prev) same at there among inside in cc
    one_list (ways.begin k d i it cs at among c) (ways.leaf m e j prev other span bs ds us ws there inside of_prev o are) same =
        let no : Begin ≡ Take prev (child.Leaf span) = same_entry k m i j it other Begin _ same at there among inside in cc
    one_list (ways.begin k d i it cs at among c) (ways.node m e j prev v other ps bs ds us ws u there inside of_prev of_node o are) same =
        let no : Begin ≡ Take prev (child.Node v) = same_entry k m i j it other Begin _ same at there among inside in cc
    one_list (ways.pass k d i p it front cs ts at among before c) (ways.begin m e j other ds there inside o) same =
        let no : Pass p ≡ Begin = same_entry k m i j it other _ _ same at there among inside in cc
    one_list (ways.pass k d i p it front cs ts at among before c) (ways.pass m e j prev other bs ds us there inside of_prev o) same =
        one_list before of_prev (same_pass p prev (same_entry k m i j it other _ _ same at there among inside))
    one_list (ways.pass k d i p it front cs ts at among before c) (ways.leaf m e j prev other span bs ds us ws there inside of_prev o are) same =
        let no : Pass p ≡ Take prev (child.Leaf span) = same_entry k m i j it other _ _ same at there among inside in cc
    one_list (ways.pass k d i p it front cs ts at among before c) (ways.node m e j prev v other ps bs ds us ws u there inside of_prev of_node o are) same =
        let no : Pass p ≡ Take prev (child.Node v) = same_entry k m i j it other _ _ same at there among inside in cc
    one_list (ways.leaf k d i p it s front cs ts ss at among before c is) (ways.begin m e j other ds there inside o) same =
        let no : Take p (child.Leaf s) ≡ Begin = same_entry k m i j it other _ _ same at there among inside in cc
    one_list (ways.leaf k d i p it s front cs ts ss at among before c is) (ways.pass m e j prev other bs ds us there inside of_prev o) same =
        let no : Take p (child.Leaf s) ≡ Pass prev = same_entry k m i j it other _ _ same at there among inside in cc
    one_list (ways.leaf k d i p it s front cs ts ss at among before c is) (ways.leaf m e j prev other span bs ds us ws there inside of_prev o are) same =
        let both = same_leaf p prev s span (same_entry k m i j it other _ _ same at there among inside) in
        is ∙ ap (λ (z : Trees). join z (one (Leaf s.begin s.end))) (one_list before of_prev both.0) ∙
        ap (λ (z : Span). join us (one (Leaf z.begin z.end))) both.1 ∙ sym are
    one_list (ways.leaf k d i p it s front cs ts ss at among before c is) (ways.node m e j prev v other ps bs ds us ws u there inside of_prev of_node o are) same =
        absurd (leaf_never_node p prev v s (same_entry k m i j it other _ _ same at there among inside))
    one_list (ways.node k d i p x it front qs cs ts ss t at among before tree c is) (ways.begin m e j other ds there inside o) same =
        let no : Take p (child.Node x) ≡ Begin = same_entry k m i j it other _ _ same at there among inside in cc
    one_list (ways.node k d i p x it front qs cs ts ss t at among before tree c is) (ways.pass m e j prev other bs ds us there inside of_prev o) same =
        let no : Take p (child.Node x) ≡ Pass prev = same_entry k m i j it other _ _ same at there among inside in cc
    one_list (ways.node k d i p x it front qs cs ts ss t at among before tree c is) (ways.leaf m e j prev other span bs ds us ws there inside of_prev o are) same =
        absurd (leaf_never_node prev p x span (sym (same_entry k m i j it other _ _ same at there among inside)))
    one_list (ways.node k d i p x it front qs cs ts ss t at among before tree c is) (ways.node m e j prev v other ps bs ds us ws u there inside of_prev of_node o are) same =
        let both = same_node p prev x v (same_entry k m i j it other _ _ same at there among inside) in
        is ∙ ap₂ (λ (y : Trees) (z : Tree). join y (one z)) (one_list before of_prev both.0) (one_tree tree of_node both.1) ∙ sym are

-- two different trees of the root mean an ambiguous node
ambiguous : (f : Forest) → IsTrim f → HasTwoTrees f → IsAmbiguous f
ambiguous f trim two = by_nodes (some_or_none (λ (n : forest.Node). length n.alternatives) f.nodes)
  where
    by_items : ((v : ℕ) (n : forest.Node) → slice_get f.nodes v ≡ Some n → length n.alternatives ≤ 1) →
        ((k : ℕ) × (it : ItemNode) × (slice_get f.items k ≡ Some it) × (1 < length it.entries)) ⊎
        ((k : ℕ) (it : ItemNode) → slice_get f.items k ≡ Some it → length it.entries ≤ 1) → IsAmbiguous f
    by_items nodes (inl r) = from_fork f trim (record { number = r.0; item = r.1; there = r.2; two = r.3 })
    by_items nodes (inr items) = absurd (two.differ (one_tree f nodes items two.first_unfolds.1 two.second_unfolds.1 refl))

    by_nodes : ((v : ℕ) × (n : forest.Node) × (slice_get f.nodes v ≡ Some n) × (1 < length n.alternatives)) ⊎
        ((v : ℕ) (n : forest.Node) → slice_get f.nodes v ≡ Some n → length n.alternatives ≤ 1) → IsAmbiguous f
    by_nodes (inl r) = from_choice f (record { number = r.0; node = r.1; there = r.2; two = r.3 })
    by_nodes (inr nodes) = by_items nodes (some_or_none (λ (it : ItemNode). length it.entries) f.items)

pub ambiguity_is_two_trees : DepthsAreHeights → TrimHasTrees → AmbiguityIsTwoTrees
ambiguity_is_two_trees depths trees f trim one_cursor =
    (two_trees depths trees f trim one_cursor, ambiguous f trim)
