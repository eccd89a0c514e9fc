-- Depths and heights.
use Rattle.std.proofs.Common.{◌≡◌, ℕ, suc, pred, ◌≤◌, max, List, length, refl, ap, subst, arith, false, true}
use Rattle.ig_text.specs.Tree.{Tree, Trees, Leaf, one, join, height, greatest_height}
use Rattle.ig_text.proofs.Trees.{joined_height}
use Rattle.ig_forest_tables.specs.Forest.{Forest}
use Rattle.ig_forest_tables.specs.Unfold.{OfNode, OfItem}
use Rattle.ig_forest_tables.specs.Unfold as trees
use Rattle.ig_heights.specs.Heights.{HasNoHigher}
use Rattle.ig_heights.specs.Laws.{DepthsAreHeights, NoneAboveNodes, TreesAreNoHigherThanNodes}

pub greatest_one : (ts : Trees) (t : Tree) → greatest_height (join ts (one t)) ≡ max (greatest_height ts) (height t)
greatest_one ts t = let h = joined_height ts (one t) in omega (arith, h)

module _ (f : Forest) where
  mutual
    pub node_low : {v d : ℕ} {cs : List ℕ} {t : Tree} → OfNode f v d cs t → height t ≤ d
    node_low (trees.choose v d i node choice bs cs ts t has among item is whole) =
        let h = item_low item in let e = ap height whole in omega (arith, h, e)

    pub item_low : {k d : ℕ} {cs : List ℕ} {ts : Trees} → OfItem f k d cs ts → greatest_height ts ≤ d
    item_low (trees.begin k d i it cs has among is) = omega arith
    item_low (trees.pass k d i prev it bs cs ts has among item is) = item_low item
    item_low (trees.leaf k d i prev it span bs cs ts us has among item is whole) =
        let h = item_low item in let e = ap greatest_height whole in
        let g = greatest_one ts (Leaf span.begin span.end) in omega (arith, h, e, g)
    item_low (trees.node k d i prev v it ps bs cs ts us t has among item tree is whole) =
        let h = item_low item in let l = node_low tree in let e = ap greatest_height whole in
        let g = greatest_one ts t in omega (arith, h, l, e, g)

  mutual
    pub node_at : {v d : ℕ} {cs : List ℕ} {t : Tree} → OfNode f v d cs t → (e : ℕ) → height t ≤ e → OfNode f v e cs t
    node_at (trees.choose v d i node choice bs cs ts t has among item is whole) e low =
        let g = ap height whole in
        let p : suc (pred e) ≡ e = omega (arith, low, g) in
        subst (λ (n : ℕ). OfNode f v n cs t) p
        (trees.choose v (pred e) i node choice bs cs ts t has among (item_at item (pred e) (omega (arith, low, g))) is whole)

    pub item_at : {k d : ℕ} {cs : List ℕ} {ts : Trees} → OfItem f k d cs ts → (e : ℕ) → greatest_height ts ≤ e →
        OfItem f k e cs ts
    item_at (trees.begin k d i it cs has among is) e low = trees.begin k e i it cs has among is
    item_at (trees.pass k d i prev it bs cs ts has among item is) e low =
        trees.pass k e i prev it bs cs ts has among (item_at item e low) is
    item_at (trees.leaf k d i prev it span bs cs ts us has among item is whole) e low =
        let w = ap greatest_height whole in let g = greatest_one ts (Leaf span.begin span.end) in
        trees.leaf k e i prev it span bs cs ts us has among (item_at item e (omega (arith, low, w, g))) is whole
    item_at (trees.node k d i prev v it ps bs cs ts us t has among item tree is whole) e low =
        let w = ap greatest_height whole in let g = greatest_one ts t in
        trees.node k e i prev v it ps bs cs ts us t has among (item_at item e (omega (arith, low, w, g)))
        (node_at tree e (omega (arith, low, w, g))) is whole

pub depths_are_heights : DepthsAreHeights
depths_are_heights f =
    record {
      low = λ v d cs t tree. node_low f tree;
      at_height = λ v d e cs t tree low. node_at f tree e low;
      low_list = λ k d cs ts list. item_low f list;
      list_at_height = λ k d e cs ts list low. item_at f list e low;
    }

pub none_above_nodes : NoneAboveNodes
none_above_nodes f heights are acyclic =
    (elim (heights.cyclic) as (λ b. heights.cyclic ≡ b → HasNoHigher f (length f.nodes)) [
      | true ↦ λ e. absurd (acyclic (are.cyclic.0 e))
      | false ↦ λ e. are.bounded e
    ]) refl

pub trees_are_no_higher_than_nodes : TreesAreNoHigherThanNodes
trees_are_no_higher_than_nodes f heights are acyclic d cs t unfolds =
    let low = are.bounded acyclic d cs t unfolds in (low, node_at f unfolds (length f.nodes) low)
