-- Nodes whose alternatives are put in order, one node after another.
use Rattle.std.proofs.Common.{◌≡◌, inl, inr, ℕ, zero, suc, ◌+◌, ◌-◌, ◌<◌, ◌≤◌, List, [], ◌∷◌, Some, length, take, drop, slice_get, IsPermutation, IsSorted, refl, sym, ap, ◌∙◌, subst, subst₂, arith}
use Rattle.std.specs.List.{slice_range}
use Rattle.std.proofs.lemmas.List.{length-drop, length-take-le}
use Rattle.std.proofs.lemmas.List.Sorted.{IsPermutation-put_mid, length_permutation}
use Rattle.std.proofs.lemmas.Option.{same_Some, slice_get_within}
use Rattle.std.proofs.lemmas.Slice.{between_is, between-put_mid, drop-put_mid, take-put_mid_below}
use Rattle.ig_text.proofs.Lists.{get_within}
use Rattle.ig_text.proofs.Orders.{below_or_at}
use Rattle.ig_text.proofs.Pairwise.{each_places}
use Rattle.ig_text.specs.Pairwise.{Each}
use borrow.Rule.Slice.PartMut.{put_mid}
use Rattle.ig_forest_tables.specs.Orders.{choice_cmp}
use Rattle.ig_forest_tables.specs.StoredNodes.{IsPutInOrder, RiseIn, begin_at, end_before, nodes_from, stored_upto, StoredNode}
use Rattle.ig_forest_tables.specs.declared.entry.Choice.{Choice}
use Rattle.ig_forest_tables.specs.declared.node_rows.Begun.{Begun}
use Rattle.ig_forest_tables.proofs.StoredNodes.{begin_found, length-nodes, node_got, node_within}

-- what stands before and behind a part stays when the part changes
module _ {X : Type 0} (xs ys : List X) (a e : ℕ) (up : a ≤ e) (within : e ≤ length xs) (long : length ys ≡ e - a) where
  range_before : (p q : ℕ) → q ≤ a → slice_range (put_mid a (e - a) xs ys) p q ≡ slice_range xs p q
  range_before p q le =
      between_is (put_mid a (e - a) xs ys) p q ∙
      ap (drop p) (take-put_mid_below a (e - a) xs ys q le (omega (arith, up, within))) ∙ sym (between_is xs p q)

  range_behind : (p q : ℕ) → e ≤ p → slice_range (put_mid a (e - a) xs ys) p q ≡ slice_range xs p q
  range_behind p q le =
      ap (take (q - p)) (drop-put_mid a (e - a) xs ys p (omega (arith, up, le)) (omega (arith, up, within)) long)

-- the nodes begin one behind another
first_begins : (choices : List Choice) (begun : List Begun) → end_before choices begun ≡ begin_at (length choices) begun 0
first_begins choices [] = refl
first_begins choices (node ∷ begun) = refl

begins_rise : (choices : List Choice) (begun : List Begun) (i j : ℕ) → RiseIn choices begun → i ≤ j →
    begin_at (length choices) begun i ≤ begin_at (length choices) begun j
begins_rise choices [] i j rise le = omega arith
begins_rise choices (node ∷ begun) zero zero rise le = omega arith
begins_rise choices (node ∷ begun) zero (suc j) rise le =
    let up = rise.0 in
    let first = first_begins choices begun in
    let rest = begins_rise choices begun 0 j rise.1 (omega arith) in
    omega (arith, up, first, rest)
begins_rise choices (node ∷ begun) (suc i) zero rise le = absurd (omega (arith, le))
begins_rise choices (node ∷ begun) (suc i) (suc j) rise le = begins_rise choices begun i j rise.1 (omega (arith, le))

-- they do so in a list that is as long
pub rise_alike : (before after : List Choice) (begun : List Begun) → length after ≡ length before → RiseIn before begun → RiseIn after begun
rise_alike before after [] long rise = tt
rise_alike before after (node ∷ []) long rise = (let up = rise.0 in omega (arith, up, long), tt)
rise_alike before after (node ∷ next ∷ begun) long rise = (rise.0, rise_alike before after (next ∷ begun) long rise.1)

-- where the alternatives of a node end
abbrev ends : List Begun → List Choice → ℕ → ℕ
ends begun choices k = begin_at (length choices) begun (suc k)

-- the alternatives of the first nodes are in order, and those of the others stayed
pub record ArePutUpTo (begun : List Begun) (count : ℕ) (before after : List Choice) : Type 0 where
  pub long : length after ≡ length before
  pub put : (k : ℕ) (node : Begun) → k < count → slice_get begun k ≡ Some node →
      IsPutInOrder (stored_upto before node (ends begun before k)) (stored_upto after node (ends begun before k))
  pub stayed : (k : ℕ) (node : Begun) → count ≤ k → slice_get begun k ≡ Some node →
      slice_range after node.begin (ends begun before k) ≡ slice_range before node.begin (ends begun before k)

-- the next one is put in order, too
module _ (begun : List Begun) (before now : List Choice) (rise : RiseIn before begun) (k : ℕ) (so_far : ArePutUpTo begun k before now)
    (node : Begun) (at : slice_get begun k ≡ Some node) (end : ℕ) (end_is : end ≡ begin_at (length now) begun (k + 1)) where
  end_here : end ≡ ends begun before k
  end_here =
      let next : k + 1 ≡ suc k = omega arith in
      end_is ∙ ap (λ (n : ℕ). begin_at n begun (k + 1)) so_far.long ∙ ap (begin_at (length before) begun) next

  pub next_within : (node.begin ≤ end) × (end ≤ length now)
  next_within =
      let w = node_within before begun k node rise at in
      let e = end_here in
      let long = so_far.long in
      (omega (arith, w.0, e), omega (arith, w.1, e, long))

  module _ (ys : List Choice) (moved : IsPermutation (slice_range now node.begin end) ys) (sorted : IsSorted choice_cmp ys) where
    abbrev After : List Choice
    After = put_mid node.begin (end - node.begin) now ys

    part_long : length ys ≡ end - node.begin
    part_long =
        let fits = next_within in
        let same = length_permutation (slice_range now node.begin end) ys moved in
        let behind = length-drop node.begin now in
        same ∙ length-take-le (end - node.begin) (drop node.begin now) (omega (arith, fits.0, fits.1, behind))

    put_here : (m : Begun) → slice_get begun k ≡ Some m →
        IsPutInOrder (stored_upto before m (ends begun before k)) (stored_upto After m (ends begun before k))
    put_here m at_m =
        let fits = next_within in
        let here : slice_range After node.begin end ≡ ys =
        between-put_mid node.begin (end - node.begin) now ys end (omega (arith, fits.0, fits.1)) part_long in
        let old : slice_range now node.begin end ≡ slice_range before node.begin end =
        subst (λ (e : ℕ). slice_range now node.begin e ≡ slice_range before node.begin e) (sym end_here)
        (so_far.stayed k node (omega arith) at) in
        subst (λ (n : Begun). IsPutInOrder (stored_upto before n (ends begun before k)) (stored_upto After n (ends begun before k)))
        (same_Some node m (sym at ∙ at_m))
        (subst (λ (e : ℕ). IsPutInOrder (stored_upto before node e) (stored_upto After node e)) end_here
        (record {
          row = refl;
          moved =
              subst (IsPermutation (slice_range before node.begin end)) (sym here)
              (subst (λ (z : List Choice). IsPermutation z ys) old moved);
          order = subst (IsSorted choice_cmp) (sym here) sorted;
        }))

    pub put_next : ArePutUpTo begun (k + 1) before After
    put_next =
        let fits = next_within in
        let length_is = part_long in record {
          long =
              length_permutation now After (IsPermutation-put_mid node.begin (end - node.begin) now ys moved) ∙ so_far.long;
          put = λ j m lt at_m.
              elim (below_or_at j k lt) [
                | inl below ↦
                    let up = begins_rise before begun (suc j) k rise (omega (arith, below)) in
                    let here = begin_found (length before) begun k node at in
                    let same : slice_range After m.begin (ends begun before j) ≡ slice_range now m.begin (ends begun before j) =
                    range_before now ys node.begin end fits.0 fits.1 length_is m.begin (ends begun before j)
                    (omega (arith, up, here)) in
                    let old = so_far.put j m below at_m in record {
                      row = refl;
                      moved = subst (IsPermutation (slice_range before m.begin (ends begun before j))) (sym same) old.moved;
                      order = subst (IsSorted choice_cmp) (sym same) old.order;
                    }
                | inr is ↦
                    subst (λ (i : ℕ). IsPutInOrder (stored_upto before m (ends begun before i)) (stored_upto After m (ends begun before i)))
                    (sym is) (put_here m (ap (slice_get begun) (sym is) ∙ at_m))
              ];
          stayed = λ j m le at_m.
              let up = begins_rise before begun (suc k) j rise (omega (arith, le)) in
              let here = begin_found (length before) begun j m at_m in
              let e = end_here in
              range_behind now ys node.begin end fits.0 fits.1 length_is m.begin (ends begun before j) (omega (arith, up, here, e)) ∙
              so_far.stayed j m (omega (arith, le)) at_m;
        }

-- the next one ends among the alternatives
pub next_ends : (begun : List Begun) (before now : List Choice) → RiseIn before begun → (k : ℕ) → ArePutUpTo begun k before now → k < length begun →
    (end : ℕ) → end ≡ begin_at (length now) begun (k + 1) → end ≤ length now
next_ends begun before now rise k so_far lt end is =
    let (node, at) = get_within begun k lt in
    let fits = next_within begun before now rise k so_far node at end is in
    fits.1

-- a node stands where it begins
begun_there : (choices : List Choice) (begun : List Begun) (k : ℕ) (a : StoredNode) → slice_get (nodes_from choices begun) k ≡ Some a →
    (node : Begun) × (slice_get begun k ≡ Some node)
begun_there choices [] k a e = cc
begun_there choices (node ∷ begun) zero a e = (node, refl)
begun_there choices (node ∷ begun) (suc k) a e = begun_there choices begun k a e

-- all are put in order
pub put_all : (begun : List Begun) (count : ℕ) (before after : List Choice) → length begun ≤ count → ArePutUpTo begun count before after →
    Each IsPutInOrder (nodes_from before begun) (nodes_from after begun)
put_all begun count before after whole are =
    each_places IsPutInOrder (nodes_from before begun) (nodes_from after begun)
    (length-nodes before begun ∙ sym (length-nodes after begun))
    (λ k a b at_a at_b.
    let (node, at) = begun_there before begun k a at_a in
    let first : stored_upto before node (ends begun before k) ≡ a =
    same_Some (stored_upto before node (ends begun before k)) a (sym (node_got before begun k node at) ∙ at_a) in
    let end : ends begun after k ≡ ends begun before k = ap (λ (n : ℕ). begin_at n begun (suc k)) are.long in
    let second : stored_upto after node (ends begun before k) ≡ b =
    ap (stored_upto after node) (sym end) ∙
    same_Some (stored_upto after node (ends begun after k)) b (sym (node_got after begun k node at) ∙ at_b) in
    let lt = slice_get_within begun k node at in
    subst₂ IsPutInOrder first second (are.put k node (omega (arith, lt, whole)) at))
