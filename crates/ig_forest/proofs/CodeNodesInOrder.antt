-- The nodes of complete items, with their alternatives put in order.
use Rattle.std.proofs.Common.{◌≡◌, ℕ, ◌+◌, List, [], ◌∷◌, true, false, Less, Equal, Greater, get_or, slice_get, IsPermutation, IsSorted, is_lt, refl, sym, ap, ap₂, ◌∙◌, subst, arith}
use Rattle.std.specs.declared.cmp.Ordering.{Ordering}
use Rattle.std.specs.List.Sorted.{IsStrictlySortedBy}
use Rattle.std.specs.Ordering.{eq_by_cmp, is_eq, nat_cmp, ordering_reverse}
use Rattle.std.proofs.lemmas.Cmp.{eq_by_cmp_equiv, nat_cmp_total, on_total, tied_itself}
use Rattle.std.proofs.lemmas.List.Sorted.{Contains-permutation, IsPermutation-sym}
use Rattle.std.proofs.lemmas.Map.Keys.{IsDistinct-IsPermutation, IsDistinct-from_sorted, apart_from_distinct, sorted_from_all_adjacent}
use Rattle.std.proofs.lemmas.Map.Lookups.{exact_unsigned}
use Rattle.ig_text.proofs.Options.{equal_parts}
use Rattle.ig_text.proofs.Pairwise.{same_length, each_right}
use Rattle.ig_text.specs.Pairwise.{Each}
use Rattle.ig_item.specs.declared.core_grammar.Nonterminal.{Nonterminal}
use Rattle.ig_forest_tables.specs.Orders.{choice_cmp}
use Rattle.ig_text.specs.Pairwise as pairwise
use Rattle.ig_forest.specs.CodeDone.{AreNodesOf, HasChoices, choice_item_cmp}
use Rattle.ig_forest_tables.specs.StoredNodes.{IsPutInOrder, rows_in, StoredNode}
use Rattle.ig_forest.specs.CodeNodes.{AreNodesWith}
use Rattle.ig_forest_tables.specs.declared.entry.Choice.{Choice}
use Rattle.ig_forest_live.specs.declared.rows.ItemRow.{ItemRow}
use Rattle.ig_forest_tables.specs.declared.node_rows.NodeRow.{NodeRow}
use Rattle.ig_forest.proofs.TotalOrders.{choice_total}
use Rattle.ig_text.proofs.Sorted.{strict_none}

-- what isn't below and doesn't tie is above
above : (o : Ordering) → is_lt o ≡ false → (o ≡ Equal → ⊥) → ordering_reverse o ≡ Less
above Less up never = cc
above Equal up never = absurd (never refl)
above Greater up never = refl

-- alternatives of different items that stand in order rise
rises_by : (x y : Choice) → is_lt (choice_cmp y x) ≡ false → eq_by_cmp choice_item_cmp x y ≡ false → choice_cmp x y ≡ Less
rises_by x y up differ =
    choice_total.antisymm x y ∙
    above (choice_cmp y x) up
    (λ tied.
    let same : y.item ≡ x.item = exact_unsigned y.item x.item (equal_parts _ (nat_cmp y.item x.item) tied).1 in
    let equal : nat_cmp x.item y.item ≡ Equal =
    subst (λ (k : ℕ). nat_cmp x.item k ≡ Equal) (sym same) (tied_itself nat_cmp_total x.item) in
    let yes : true ≡ false = sym (ap is_eq equal) ∙ differ in
    cc)

-- alternatives of different items are strictly sorted once they are in order
strictly_sorted : (xs ys : List Choice) → IsStrictlySortedBy choice_item_cmp xs → IsPermutation xs ys → IsSorted choice_cmp ys →
    IsStrictlySortedBy choice_cmp ys
strictly_sorted xs [] strict moved sorted = strict_none choice_cmp
strictly_sorted xs (y ∷ ys) strict moved sorted =
    let alike = eq_by_cmp choice_item_cmp in
    let flips = (eq_by_cmp_equiv (on_total (λ (x : Choice). x.item) nat_cmp_total)).symm in
    let differ = IsDistinct-IsPermutation alike flips xs (y ∷ ys) moved (IsDistinct-from_sorted choice_item_cmp xs strict) in
    sorted_from_all_adjacent choice_total (y ∷ ys) y
    (λ k lt.
    rises_by (get_or (y ∷ ys) k y) (get_or (y ∷ ys) (k + 1) y) (sorted k y (omega arith) lt)
    (apart_from_distinct alike (y ∷ ys) k (k + 1) y differ (omega arith) lt))

-- the rows stay
rows_stay : (before after : List StoredNode) → Each IsPutInOrder before after → rows_in after ≡ rows_in before
rows_stay _ _ pairwise.none = refl
rows_stay _ _ (pairwise.more a b before after p each) =
    ap₂ (λ (n : NodeRow) (ns : List NodeRow). n ∷ ns) p.row (rows_stay before after each)

-- the choices of a node are put in order
choices_put : (core : List Nonterminal) (rows : List ItemRow) (a b : StoredNode) → IsPutInOrder a b →
    HasChoices choice_item_cmp core rows a.row a.alternatives → HasChoices choice_cmp core rows b.row b.alternatives
choices_put core rows a b p has =
    subst (λ (n : NodeRow). HasChoices choice_cmp core rows n b.alternatives) (sym p.row)
    (record {
      members = λ c. (
        λ h. (has.members c).0
            (Contains-permutation b.alternatives a.alternatives c (IsPermutation-sym a.alternatives b.alternatives p.moved) h),
        λ h. Contains-permutation a.alternatives b.alternatives c p.moved ((has.members c).1 h),
      );
      order = strictly_sorted a.alternatives b.alternatives has.order p.moved p.order;
    })

-- the nodes that one pass made are put in order
pub nodes_put : (core : List Nonterminal) (rows : List ItemRow) (before after : List StoredNode) (numbers : List ℕ) →
    Each IsPutInOrder before after → AreNodesWith choice_item_cmp core rows before numbers → AreNodesWith choice_cmp core rows after numbers
nodes_put core rows before after numbers each are =
    let same = rows_stay before after each in record {
      nodes = subst (AreNodesOf core rows) (sym same) are.nodes;
      choices = λ n c.
          let (m, among, p) = each_right IsPutInOrder before after each n c in
          choices_put core rows m n p (are.choices m among);
      few = let few = are.few in let long = same_length each in omega (arith, few, long);
      long = are.long;
      numbered = λ k row at last.
          let n = are.numbered k row at last in
          record { number = n.number; there = n.there; node = ap (λ (z : List NodeRow). slice_get z n.number) same ∙ n.node };
    }
