-- Where walks lead: exactly through the parts whose least height is no greater than the depth that is left.
use Rattle.std.proofs.Common.{◌≡◌, ℕ, zero, suc, ◌<◌, ◌≤◌, List, [], ◌∷◌, ◌++◌, None, length, slice_get, refl, arith}
use Rattle.std.proofs.lemmas.Option.{slice_get_within}
use Rattle.ig_text.specs.declared.text.Span.{Span}
use Rattle.ig_text.specs.Tree.{Tree, Trees}
use Rattle.ig_forest_tables.specs.Forest.{Forest}
use Rattle.ig_forest_tables.specs.Unfold.{OfNode, OfItem}
use Rattle.ig_forest_tables.specs.Unfold as trees
use Rattle.ig_heights.specs.Heights.{IsLeastOfNode, IsLeastOfItem}
use Rattle.ig_heights.specs.Laws.{HasLowTrees}
use Rattle.ig_walker.specs.Walks.{Walk, cursor, Opens}
use Rattle.ig_walker.specs.Walks as w
use Rattle.ig_walker.specs.Options.{options}
use Rattle.ig_walker.specs.declared.goal.Goal.{Goal}
use Rattle.ig_walker.specs.declared.goal.Goal.TheVariants.{Node, Item, Leaf}
use Rattle.ig_walker.proofs.Unfolding.{node_walk, item_walk}
use Rattle.ig_walker.proofs.Back.{tree_of, item_first, walk_pending}
use Rattle.ig_text.proofs.Lists.{past_end}
use Rattle.ig_walker.proofs.Walking.{parted, joined}

module _ (f : Forest) where
  abbrev opts : Goal → List (List Goal)
  opts = options f

  node_inside : {v d : ℕ} {cs : List ℕ} {t : Tree} → OfNode f v d cs t → v < length f.nodes
  node_inside (trees.choose v d i node choice bs cs ts t has at item is whole) = slice_get_within f.nodes v node has

  item_inside : {k d : ℕ} {cs : List ℕ} {ts : Trees} → OfItem f k d cs ts → k < length f.items
  item_inside (trees.begin k d i it cs has at is) = slice_get_within f.items k it has
  item_inside (trees.pass k d i prev it bs cs ts has at item is) = slice_get_within f.items k it has
  item_inside (trees.leaf k d i prev it span bs cs ts us has at item is whole) = slice_get_within f.items k it has
  item_inside (trees.node k d i prev v it ps bs cs ts us t has at item kid is whole) = slice_get_within f.items k it has

  item_there : (k d : ℕ) → Opens opts (Item k d ∷ []) → (cs : List ℕ) × (ts : Trees) × OfItem f k d cs ts
  item_there k d o =
      let h = item_first f k d [] (cursor opts o.0) (walk_pending f o.1) in (h.bs, h.ts, h.here)

  pub no_node_opens : (heights : List ℕ) (v d : ℕ) → length heights ≡ length f.nodes → slice_get heights v ≡ None →
      Opens opts (Node v d ∷ []) → ⊥
  no_node_opens heights v d long e o =
      let h = tree_of f v d o.0 o.1 in
      let a = node_inside h.here in let b = past_end heights v e in omega (arith, a, b, long)

  pub no_item_opens : (heights : List ℕ) (k d : ℕ) → length heights ≡ length f.items → slice_get heights k ≡ None →
      Opens opts (Item k d ∷ []) → ⊥
  no_item_opens heights k d long e o =
      let h = item_there k d o in
      let a = item_inside h.2 in let b = past_end heights k e in omega (arith, a, b, long)

  pub leaf_opens : (span : Span) → Opens opts (Leaf span ∷ [])
  leaf_opens span = (record { goal = Leaf span; choice = 0 } ∷ [], w.step (Leaf span) [] [] 0 [] refl w.done)

  pub nothing_opens : Opens opts []
  nothing_opens = ([], w.done)

  pub both_open : (g h : Goal) → Opens opts (g ∷ []) → Opens opts (h ∷ []) → Opens opts (g ∷ h ∷ [])
  both_open g h a b = (a.0 ++ b.0, joined opts a.1 (h ∷ []) b.0 b.1)

  pub first_opens : (g h : Goal) → Opens opts (g ∷ h ∷ []) → Opens opts (g ∷ [])
  first_opens g h o = let p = parted opts (g ∷ []) (h ∷ []) o.0 o.1 in (p.front, p.first)

  pub second_opens : (g h : Goal) → Opens opts (g ∷ h ∷ []) → Opens opts (h ∷ [])
  second_opens g h o = let p = parted opts (g ∷ []) (h ∷ []) o.0 o.1 in (p.back, p.second)

  module _ (low : HasLowTrees f) where
    pub node_fits : (v n d : ℕ) → IsLeastOfNode f v n → n ≤ d → Opens opts (Node v d ∷ [])
    node_fits v n d l fits =
        let high = l.high in
        let s = node_walk f (low.at_height v n d l.cursor l.tree l.attained (omega (arith, fits, high))) in
        (s.vs, s.walk)

    pub item_fits : (k n d : ℕ) → IsLeastOfItem f k n → n ≤ d → Opens opts (Item k d ∷ [])
    item_fits k n d l fits =
        let high = l.high in
        let s = item_walk f (low.list_at_height k n d l.cursor l.trees l.attained (omega (arith, fits, high))) in
        (s.vs, s.walk)

  pub node_needs : (v n d : ℕ) → IsLeastOfNode f v n → Opens opts (Node v d ∷ []) → n ≤ d
  node_needs v n d l o = let t = tree_of f v d o.0 o.1 in l.least d (cursor opts o.0) t.t t.here

  pub item_needs : (k n d : ℕ) → IsLeastOfItem f k n → Opens opts (Item k d ∷ []) → n ≤ d
  item_needs k n d l o = let t = item_there k d o in l.least d t.0 t.1 t.2
