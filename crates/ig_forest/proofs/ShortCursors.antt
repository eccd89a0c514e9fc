-- The numbers of cursors are smaller than the number of item nodes.
use Rattle.std.proofs.Common.{◌≡◌, ◌≢◌, ℕ, zero, suc, ◌<◌, ◌≤◌, List, [], ◌++◌, Less, Equal, length, map, get_or, All, Contains, Some, slice_get, refl, sym, ap, ◌∙◌, subst, arith}
use Rattle.std.specs.Cmp.{IsTotalOrder}
use Rattle.std.specs.List.Sorted.{IsStrictlySortedBy}
use Rattle.std.specs.declared.cmp.Ordering.{Ordering}
use Rattle.std.proofs.lemmas.Bool.Decides.{Decides-eqb}
use Rattle.std.proofs.lemmas.Cmp.{tied_itself}
use Rattle.std.proofs.lemmas.List.{length-map}
use Rattle.std.proofs.lemmas.List.Elements.{All-nil, All-cons, All-append}
use Rattle.std.proofs.lemmas.Map.Made.{IsDistinct-from_AllPairs, is_member-Decides}
use Rattle.std.proofs.lemmas.Map.Steps.{length-le_from_distinct_below}
use Rattle.std.proofs.lemmas.Option.{get_or_from_slice_get, same_Some, slice_get_within}
use Rattle.ig_text.specs.Input.{Input}
use Rattle.ig_text.specs.Tree.{Tree, Trees}
use Rattle.ig_text.proofs.Lists.{get_within, contains_from_at, unmapped_in, mapped_at}
use Rattle.ig_text.proofs.Pairwise.{key_at, same_length}
use Rattle.ig_text.proofs.Rising.{rises}
use Rattle.ig_text.proofs.Sorted.{equal_number}
use Rattle.ig_item.specs.Core.{IsAlternative}
use Rattle.ig_item.specs.Gives.{NodeKey}
use Rattle.ig_item.specs.Items.{Item}
use Rattle.ig_item.specs.Laws.{AlternativesAreOne}
use Rattle.ig_item.specs.declared.core_grammar.CoreAlt.{CoreAlt}
use Rattle.ig_item.specs.declared.core_grammar.Nonterminal.{Nonterminal}
use Rattle.ig_forest_tables.specs.Forest as forest
use Rattle.ig_forest_tables.specs.Forest.{Forest, ItemNode}
use Rattle.ig_forest_tables.specs.Orders.{choice_cmp, previous}
use Rattle.ig_forest.specs.Reduced as reduced
use Rattle.ig_forest.specs.Reduced.{IsReduced, IsChoice, IsEntry}
use Rattle.ig_forest.specs.TreeLaws.{CursorsAreShort}
use Rattle.ig_forest_tables.specs.Unfold as ways
use Rattle.ig_forest_tables.specs.Unfold.{OfNode, OfItem, noted}
use Rattle.ig_forest_tables.specs.declared.entry.Choice.{Choice}
use Rattle.ig_forest_tables.specs.declared.entry.Entry.{Entry}
use Rattle.ig_forest.proofs.TotalOrders.{choice_total, entry_total}

-- a sorted list whose members have different numbers has no more members than there are numbers
few : {X : Type 0} {R : X → X → Ordering} → IsTotalOrder R → (key : X → ℕ) (n : ℕ) (xs : List X) → IsStrictlySortedBy R xs →
    ((x y : X) → Contains xs x → Contains xs y → key x ≡ key y → R x y ≡ Equal) → ((x : X) → Contains xs x → key x < n) →
    length xs ≤ n
few {R = R} total key n xs sorted apart below =
    let numbers = map key xs in
    let long = length-map xs key in
    let differ : (i j d : ℕ) → i < j → j < length numbers → get_or numbers i d ≢ get_or numbers j d =
    λ i j d lt within same.
    let (x, at_x) = get_within xs i (omega (arith, lt, within, long)) in
    let (y, at_y) = get_within xs j (omega (arith, within, long)) in
    let first : get_or numbers i d ≡ key x = get_or_from_slice_get numbers i (key x) d (mapped_at key xs i x at_x) in
    let second : get_or numbers j d ≡ key y = get_or_from_slice_get numbers j (key y) d (mapped_at key xs j y at_y) in
    let less : R x y ≡ Less = rises R xs i j x y sorted at_x at_y lt in
    let equal : R x y ≡ Equal =
    apart x y (contains_from_at xs i x at_x) (contains_from_at xs j y at_y) (sym first ∙ same ∙ second) in
    cc in
    let all =
    length-le_from_distinct_below numbers n (IsDistinct-from_AllPairs Decides-eqb numbers differ)
    (λ q e.
    let (x, among, is) = unmapped_in key xs q ((is_member-Decides Decides-eqb numbers q).0 e) in
    subst (λ (m : ℕ). m < n) is (below x among)) in
    omega (arith, all, long)

noted_below : (many i n : ℕ) → i < many → many ≤ n → All (λ m. m < n) (noted many i)
noted_below zero i n within most = All-nil (λ m. m < n)
noted_below (suc zero) i n within most = All-nil (λ m. m < n)
noted_below (suc (suc many)) i n within most =
    All-cons (λ m. m < n) i [] (omega (arith, within, most)) (All-nil (λ m. m < n))

module _ (alternatives_one : AlternativesAreOne) (core : List Nonterminal) (text : Input) (f : Forest) (is : IsReduced core text f) where
  size : length is.items ≡ length f.items
  size = same_length is.item_nodes

  -- choices of one item are one
  one_choice : (key : NodeKey) (a b : Choice) → IsChoice core is.items key a → IsChoice core is.items key b → a.item ≡ b.item → a ≡ b
  one_choice key a b p q same =
      let items : p.item ≡ q.item = same_Some p.item q.item (sym p.numbered ∙ ap (slice_get is.items) same ∙ q.numbered) in
      let first = p.completes.complete in
      let second = q.completes.complete in
      let has : IsAlternative core q.item.instance.nonterminal q.item.alternative first.nonterminal first.alternative =
      subst (λ (z : Item). IsAlternative core z.instance.nonterminal z.alternative first.nonterminal first.alternative) items first.has in
      let one =
      alternatives_one core q.item.instance.nonterminal q.item.alternative first.nonterminal second.nonterminal first.alternative
      second.alternative has second.has in
      let tag : a.tag ≡ b.tag = p.tagged ∙ ap (λ (z : CoreAlt). z.tag) one.alternatives ∙ sym q.tagged in
      λ i. record { tag = tag i; item = same i }

  choices_few : (v : ℕ) (node : forest.Node) → slice_get f.nodes v ≡ Some node → length node.alternatives ≤ length f.items
  choices_few v node there =
      let k = key_at is.nodes v node there in
      few choice_total (λ (c : Choice). c.item) (length f.items) node.alternatives k.2.order
      (λ a b in_a in_b same.
      let one = one_choice k.0 a b ((k.2.choices a).0 in_a) ((k.2.choices b).0 in_b) same in
      ap (choice_cmp a) (sym one) ∙ tied_itself choice_total a)
      (λ c among. let h = (k.2.choices c).0 among in
      let w = slice_get_within is.items c.item h.item h.numbered in omega (arith, w, size))

  entry_below : (k : ℕ) (x : Item) (e : Entry) → k < length f.items → IsEntry core text is.items is.keys x e →
      previous e < length f.items
  entry_below k x e within (reduced.begin a first same) =
      subst (λ (z : Entry). previous z < length f.items) (sym same) (omega (arith, within))
  entry_below k x e within (reduced.pass p prev a there gives same) =
      let w = slice_get_within is.items p prev there in
      subst (λ (z : Entry). previous z < length f.items) (sym same) (omega (arith, w, size))
  entry_below k x e within (reduced.take_leaf p prev span a there gives same) =
      let w = slice_get_within is.items p prev there in
      subst (λ (z : Entry). previous z < length f.items) (sym same) (omega (arith, w, size))
  entry_below k x e within (reduced.take_node p v prev key a there node gives same) =
      let w = slice_get_within is.items p prev there in
      subst (λ (z : Entry). previous z < length f.items) (sym same) (omega (arith, w, size))

  entries_few : (k : ℕ) (it : ItemNode) → slice_get f.items k ≡ Some it → length it.entries ≤ length f.items
  entries_few k it there =
      let h = key_at is.item_nodes k it there in
      few entry_total previous (length f.items) it.entries h.2.order (λ a b in_a in_b same. equal_number (previous a) (previous b) same)
      (λ e among. entry_below k h.0 e (slice_get_within f.items k it there) ((h.2.entries e).0 among))

  abbrev IsBelow : List ℕ → Type 0
  IsBelow cs = All (λ n. n < length f.items) cs

  choice_below : (v i : ℕ) (node : forest.Node) (choice : Choice) → slice_get f.nodes v ≡ Some node →
      slice_get node.alternatives i ≡ Some choice → IsBelow (noted (length node.alternatives) i)
  choice_below v i node choice there among =
      noted_below _ i _ (slice_get_within node.alternatives i choice among) (choices_few v node there)

  taken_below : (k i : ℕ) (it : ItemNode) (e : Entry) → slice_get f.items k ≡ Some it → slice_get it.entries i ≡ Some e →
      IsBelow (noted (length it.entries) i)
  taken_below k i it e there among =
      noted_below _ i _ (slice_get_within it.entries i e among) (entries_few k it there)

  joined : (xs bs cs : List ℕ) → cs ≡ xs ++ bs → IsBelow xs → IsBelow bs → IsBelow cs
  joined xs bs cs same left right =
      subst IsBelow (sym same) (All-append (λ n. n < length f.items) xs bs left right)

  mutual
    node_below : {v d : ℕ} {cs : List ℕ} {t : Tree} → OfNode f v d cs t → IsBelow cs
    node_below (ways.choose v d i n choice bs cs ts t at among of_item c same) =
        joined _ bs cs c (choice_below v i n choice at among) (item_below of_item)

    item_below : {k d : ℕ} {cs : List ℕ} {ts : Trees} → OfItem f k d cs ts → IsBelow cs
    item_below (ways.begin k d i it cs at among c) = subst IsBelow (sym c) (taken_below k i it _ at among)
    item_below (ways.pass k d i prev it bs cs ts at among of_prev c) =
        joined _ bs cs c (taken_below k i it _ at among) (item_below of_prev)
    item_below (ways.leaf k d i prev it span bs cs ts us at among of_prev c same) =
        joined _ bs cs c (taken_below k i it _ at among) (item_below of_prev)
    item_below (ways.node k d i prev v it ps bs cs ts us t at among of_prev of_node c same) =
        joined _ (ps ++ bs) cs c (taken_below k i it _ at among)
        (joined ps bs (ps ++ bs) refl (item_below of_prev) (node_below of_node))

pub cursors_are_short : AlternativesAreOne → (f : Forest) → length f.items < 4294967296 → CursorsAreShort f
cursors_are_short alternatives_one f small core text is d cs t unfolds =
    let below = node_below alternatives_one core text f is unfolds in
    λ k e within. let b = below k e within in omega (arith, b, small)
