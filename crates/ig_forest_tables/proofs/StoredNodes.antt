-- Nodes that grow at the end.
use Rattle.std.proofs.lemmas.Option.{same_Some}
use Rattle.std.specs.Prelude.{Option, option_map}
use Rattle.std.proofs.Common.{Some, None, slice_get, zero, ◌≡◌, ℕ, suc, ◌+◌, ◌-◌, ◌≤◌, List, [], ◌∷◌, ◌++◌, length, take, drop, refl, sym, ap, ◌∙◌, subst, arith, length-append}
use Rattle.std.proofs.lemmas.List.{drop-append-le, take_rest}
use Rattle.std.specs.List.{slice_range}
use Rattle.ig_text.proofs.Lists.{range_left}
use Rattle.ig_forest_tables.specs.StoredNodes.{RiseIn, begin_at, end_before, nodes_from, rows_in, stored_upto, with_choice, StoredNode}
use Rattle.ig_forest_tables.specs.declared.entry.Choice.{Choice}
use Rattle.ig_forest_tables.specs.declared.node_rows.Begun.{Begun}

range_more : {X : Type 0} (xs : List X) (y : X) (a : ℕ) → a ≤ length xs →
    slice_range (xs ++ y ∷ []) a (length (xs ++ y ∷ [])) ≡ slice_range xs a (length xs) ++ y ∷ []
range_more xs y a within =
    take_rest (xs ++ y ∷ []) a ∙ drop-append-le a xs (y ∷ []) within ∙ ap (λ (z : List _). z ++ y ∷ []) (sym (take_rest xs a))

-- the ends are within the alternatives
end_within : (choices : List Choice) (begun : List Begun) → RiseIn choices begun → end_before choices begun ≤ length choices
end_within choices [] rise = omega arith
end_within choices (node ∷ begun) rise = let up = rise.0 in let rest = end_within choices begun rise.1 in omega (arith, up, rest)

-- one more alternative
pub choice_more : (choices : List Choice) (c : Choice) (begun : List Begun) → RiseIn choices begun →
    nodes_from (choices ++ c ∷ []) begun ≡ with_choice (nodes_from choices begun) c
choice_more choices c [] rise = refl
choice_more choices c (node ∷ []) rise =
    ap (λ (z : List Choice). (let n : StoredNode = record { row = node.row; alternatives = z } in n) ∷ []) (range_more choices c node.begin rise.0)
choice_more choices c (node ∷ next ∷ begun) rise =
    let head = ap (λ (z : List Choice). (let n : StoredNode = record { row = node.row; alternatives = z } in n))
    (range_left choices (c ∷ []) node.begin next.begin rise.0 (end_within choices (next ∷ begun) rise.1)) in
    let rest = choice_more choices c (next ∷ begun) rise.1 in
    ap (λ (z : StoredNode). z ∷ nodes_from (choices ++ c ∷ []) (next ∷ begun)) head ∙
    ap (λ (z : List StoredNode). (let n : StoredNode = record { row = node.row; alternatives = slice_range choices node.begin next.begin } in n) ∷ z) rest

pub choice_rise : (choices : List Choice) (c : Choice) (begun : List Begun) → RiseIn choices begun → RiseIn (choices ++ c ∷ []) begun
choice_rise choices c [] rise = tt
choice_rise choices c (node ∷ []) rise = (let up = rise.0 in let long = length-append choices (c ∷ []) in omega (arith, up, long), tt)
choice_rise choices c (node ∷ next ∷ begun) rise = (rise.0, choice_rise choices c (next ∷ begun) rise.1)

-- one more node
end_kept : (choices : List Choice) (begun : List Begun) (node : Begun) → node.begin ≡ length choices →
    end_before choices (begun ++ node ∷ []) ≡ end_before choices begun
end_kept choices [] node at = at
end_kept choices (next ∷ begun) node at = refl

pub node_more : (choices : List Choice) (begun : List Begun) (node : Begun) → node.begin ≡ length choices →
    nodes_from choices (begun ++ node ∷ []) ≡ nodes_from choices begun ++ (record { row = node.row; alternatives = [] }) ∷ []
node_more choices [] node at =
    ap (λ (z : List Choice). (let n : StoredNode = record { row = node.row; alternatives = z } in n) ∷ [])
    (none (length choices - node.begin) (drop node.begin choices) (omega (arith, at)))
  where
    none : (n : ℕ) (xs : List Choice) → n ≡ 0 → take n xs ≡ []
    none n xs e = ap (λ (m : ℕ). take m xs) e
node_more choices (first ∷ begun) node at =
    ap (λ (e : ℕ). (let n : StoredNode = record { row = first.row; alternatives = slice_range choices first.begin e } in n) ∷ nodes_from choices (begun ++ node ∷ []))
    (end_kept choices begun node at) ∙
    ap (λ (z : List StoredNode). (let n : StoredNode = record { row = first.row; alternatives = slice_range choices first.begin (end_before choices begun) } in n) ∷ z)
    (node_more choices begun node at)

pub node_rise : (choices : List Choice) (begun : List Begun) (node : Begun) → node.begin ≡ length choices → RiseIn choices begun →
    RiseIn choices (begun ++ node ∷ [])
node_rise choices [] node at rise = (omega (arith, at), tt)
node_rise choices (first ∷ begun) node at rise =
    (let e = end_kept choices begun node at in let up = rise.0 in omega (arith, e, up), node_rise choices begun node at rise.1)

pub length-nodes : (choices : List Choice) (begun : List Begun) → length (nodes_from choices begun) ≡ length begun
length-nodes choices [] = refl
length-nodes choices (node ∷ begun) = ap suc (length-nodes choices begun)

-- a node by its number
pub node_got : (choices : List Choice) (begun : List Begun) (k : ℕ) (node : Begun) → slice_get begun k ≡ Some node →
    slice_get (nodes_from choices begun) k ≡ Some (stored_upto choices node (begin_at (length choices) begun (suc k)))
node_got choices [] k node e = cc
node_got choices (first ∷ []) zero node e =
    ap (λ (n : Begun). Some (stored_upto choices n (length choices))) (same_Some first node e)
node_got choices (first ∷ next ∷ begun) zero node e =
    ap (λ (n : Begun). Some (stored_upto choices n next.begin)) (same_Some first node e)
node_got choices (first ∷ begun) (suc k) node e = node_got choices begun k node e

pub node_lacks : (choices : List Choice) (begun : List Begun) (k : ℕ) → slice_get begun k ≡ None → slice_get (nodes_from choices begun) k ≡ None
node_lacks choices [] k e = refl
node_lacks choices (first ∷ begun) zero e = cc
node_lacks choices (first ∷ begun) (suc k) e = node_lacks choices begun k e

pub node_within : (choices : List Choice) (begun : List Begun) (k : ℕ) (node : Begun) → RiseIn choices begun → slice_get begun k ≡ Some node →
    (node.begin ≤ begin_at (length choices) begun (suc k)) × (begin_at (length choices) begun (suc k) ≤ length choices)
node_within choices [] k node rise e = cc
node_within choices (first ∷ []) zero node rise e =
    subst (λ (n : Begun). (n.begin ≤ length choices) × (length choices ≤ length choices)) (same_Some first node e) (rise.0, omega arith)
node_within choices (first ∷ next ∷ begun) zero node rise e =
    subst (λ (n : Begun). (n.begin ≤ next.begin) × (next.begin ≤ length choices)) (same_Some first node e)
    (rise.0, let up = rise.1.0 in let in_all = end_within choices begun rise.1.1 in omega (arith, up, in_all))
node_within choices (first ∷ begun) (suc k) node rise e = node_within choices begun k node rise.1 e

-- where the next node begins
pub begin_found : (all : ℕ) (begun : List Begun) (k : ℕ) (node : Begun) → slice_get begun k ≡ Some node → node.begin ≡ begin_at all begun k
begin_found all [] k node e = cc
begin_found all (first ∷ begun) zero node e = ap (λ (n : Begun). n.begin) (sym (same_Some first node e))
begin_found all (first ∷ begun) (suc k) node e = begin_found all begun k node e

pub begin_lacks : (all : ℕ) (begun : List Begun) (k : ℕ) → slice_get begun k ≡ None → all ≡ begin_at all begun k
begin_lacks all [] k e = refl
begin_lacks all (first ∷ begun) zero e = cc
begin_lacks all (first ∷ begun) (suc k) e = begin_lacks all begun k e

-- what the code hands out
module _ (choices shown : List Choice) (begun first : List Begun) (all : List StoredNode) (k : ℕ) (first_is : first ≡ begun)
    (view : nodes_from choices begun ≡ all) where
  pub code_lacks : None ≡ slice_get first k → None ≡ slice_get all k
  code_lacks e =
      sym (node_lacks choices begun k (ap (λ (z : List Begun). slice_get z k) (sym first_is) ∙ sym e)) ∙ ap (λ (z : List StoredNode). slice_get z k) view

  module _ (second : List Begun) (node : Begun) (end : ℕ) (second_is : second ≡ begun) (shown_is : shown ≡ choices)
      (found : Some node ≡ slice_get first k) (end_is : end ≡ begin_at (length shown) second (k + 1)) where
    at : slice_get begun k ≡ Some node
    at = ap (λ (z : List Begun). slice_get z k) (sym first_is) ∙ sym found

    ends : begin_at (length choices) begun (suc k) ≡ end
    ends =
        let next : suc k ≡ k + 1 = omega arith in
        ap (begin_at (length choices) begun) next ∙ ap (λ (z : List Choice). begin_at (length z) begun (k + 1)) (sym shown_is) ∙
        ap (λ (z : List Begun). begin_at (length shown) z (k + 1)) (sym second_is) ∙ sym end_is

    pub code_within : RiseIn choices begun → (node.begin ≤ end) × (end ≤ length shown)
    code_within rise =
        let w = node_within choices begun k node rise at in
        let e = ends in
        let long = ap length shown_is in
        (omega (arith, w.0, e), omega (arith, w.1, e, long))

    pub code_got : (range : List Choice) → range ≡ slice_range shown node.begin end →
        Some (let n : StoredNode = record { row = node.row; alternatives = range } in n) ≡ slice_get all k
    code_got range is =
        ap (λ (z : List Choice). Some (let n : StoredNode = record { row = node.row; alternatives = z } in n))
        (is ∙ ap (λ (z : List Choice). slice_range z node.begin end) shown_is ∙ ap (λ (n : ℕ). slice_range choices node.begin n) (sym ends)) ∙
        sym (node_got choices begun k node at) ∙ ap (λ (z : List StoredNode). slice_get z k) view

-- the row of the last node
row_at : (choices : List Choice) (begun : List Begun) (k : ℕ) → slice_get (rows_in (nodes_from choices begun)) k ≡ option_map (λ (node : Begun). node.row) (slice_get begun k)
row_at choices [] k = refl
row_at choices (first ∷ begun) zero = refl
row_at choices (first ∷ begun) (suc k) = row_at choices begun k

pub row_code : (choices : List Choice) (begun lent : List Begun) (all : List StoredNode) (k : ℕ) (found : Option Begun) → nodes_from choices begun ≡ all →
    lent ≡ begun → found ≡ slice_get lent k → option_map (λ (node : Begun). node.row) found ≡ slice_get (rows_in all) k
row_code choices begun lent all k found view lent_is e =
    ap (option_map (λ (node : Begun). node.row)) (e ∙ ap (λ (z : List Begun). slice_get z k) lent_is) ∙ sym (row_at choices begun k) ∙
    ap (λ (z : List StoredNode). slice_get (rows_in z) k) view

pub last_code : (choices : List Choice) (begun lent : List Begun) (all : List StoredNode) (count last : ℕ) (found : Option Begun) → nodes_from choices begun ≡ all →
    lent ≡ begun → count ≡ length begun → last ≡ count - 1 → found ≡ slice_get lent last →
    option_map (λ (node : Begun). node.row) found ≡ slice_get (rows_in all) (length all - 1)
last_code choices begun lent all count last found view lent_is count_is last_is e =
    let long = sym (length-nodes choices begun) ∙ ap length view in
    let place : last ≡ length all - 1 = last_is ∙ ap (λ (n : ℕ). n - 1) (count_is ∙ long) in
    ap (option_map (λ (node : Begun). node.row)) (e ∙ ap (λ (z : List Begun). slice_get z last) lent_is) ∙ sym (row_at choices begun last) ∙
    ap (λ (z : List StoredNode). slice_get (rows_in z) last) view ∙ ap (slice_get (rows_in all)) place
