-- A measure of pending goals that each visit lowers.
use Rattle.std.proofs.Common.{◌≡◌, ℕ, zero, suc, ◌<◌, ◌≤◌, ◌+◌, List, [], ◌∷◌, ◌++◌, Option, Some, None, length, slice_get, map, refl, subst, arith}
use Rattle.ig_text.proofs.Lists.{contains_from_at, unmapped_at}
use Rattle.ig_text.specs.declared.text.Span.{Span}
use Rattle.ig_forest_tables.specs.Forest as forest
use Rattle.ig_forest_tables.specs.Forest.{Forest, ItemNode}
use Rattle.ig_forest_tables.specs.Unfold.{IsTrim}
use Rattle.ig_forest_tables.specs.declared.entry.Entry.{Entry}
use Rattle.ig_forest_tables.specs.declared.entry.Entry.TheVariants.{Begin, Pass, Take}
use Rattle.ig_forest_tables.specs.declared.entry.Child.TheVariants as child
use Rattle.ig_heights.specs.Table.{choices_in, entries_in}
use Rattle.ig_walker.specs.Options.{behind_choice, behind_entry, options}
use Rattle.ig_walker.specs.declared.goal.Goal.{Goal}
use Rattle.ig_walker.specs.declared.goal.Goal.TheVariants.{Node, Item, Leaf}

abbrev pub pow3 : ℕ → ℕ
pow3 zero = 1
pow3 (suc n) = pow3 n + pow3 n + pow3 n

abbrev pub rows : ℕ → ℕ → ℕ
rows n zero = 0
rows n (suc d) = rows n d + (n + 1)

abbrev pub level : ℕ → Goal → ℕ
level n (Node v d) = rows n d
level n (Item k d) = rows n d + (k + 1)
level n (Leaf span) = 0

abbrev pub weight : ℕ → List Goal → ℕ
weight n [] = 0
weight n (g ∷ gs) = pow3 (level n g) + weight n gs

positive : (n : ℕ) → 0 < pow3 n
positive zero = omega arith
positive (suc n) = let h = positive n in omega (arith, h)

rises : (a b : ℕ) → a ≤ b → pow3 a ≤ pow3 b
rises zero b less = let h = positive b in omega (arith, h)
rises (suc a) zero less = absurd (omega (arith, less))
rises (suc a) (suc b) less = let h = rises a b (omega (arith, less)) in omega (arith, h)

below : (a b : ℕ) → a < b → pow3 a + (pow3 a + pow3 a) ≤ pow3 b
below a zero less = absurd (omega (arith, less))
below a (suc b) less = let h = rises a b (omega (arith, less)) in omega (arith, h)

pub weight_join : (n : ℕ) (gs hs : List Goal) → weight n (gs ++ hs) ≡ weight n gs + weight n hs
weight_join n [] hs = omega arith
weight_join n (g ∷ gs) hs = let h = weight_join n gs hs in omega (arith, h)

one_lower : (n : ℕ) (g h : Goal) → level n h < level n g → weight n (h ∷ []) < pow3 (level n g)
one_lower n g h less = let a = below (level n h) (level n g) less in let b = positive (level n h) in omega (arith, a, b)

two_lower : (n : ℕ) (g h k : Goal) → level n h < level n g → level n k < level n g → weight n (h ∷ k ∷ []) < pow3 (level n g)
two_lower n g h k less also =
    let a = below (level n h) (level n g) less in let b = below (level n k) (level n g) also in let p = positive (level n g) in
    omega (arith, a, b, p)

module _ (f : Forest) (good : IsTrim f) where
  abbrev many : ℕ
  many = length f.items

  entry_lower : (d k i : ℕ) (it : ItemNode) (e : Entry) → slice_get f.items k ≡ Some it →
      slice_get it.entries i ≡ Some e → weight many (behind_entry d e) < pow3 (level many (Item k d))
  entry_lower d k i it Begin has at = positive (level many (Item k d))
  entry_lower d k i it (Pass prev) has at =
      let p = good.onward k it (Pass prev) has (contains_from_at it.entries i (Pass prev) at) in one_lower many (Item k d) (Item prev d) (omega (arith, p))
  entry_lower d k i it (Take prev (child.Leaf span)) has at =
      let p = good.onward k it (Take prev (child.Leaf span)) has (contains_from_at it.entries i (Take prev (child.Leaf span)) at) in two_lower many (Item k d) (Item prev d) (Leaf span) (omega (arith, p)) (omega arith)
  entry_lower d k i it (Take prev (child.Node v)) has at =
      let p = good.onward k it (Take prev (child.Node v)) has (contains_from_at it.entries i (Take prev (child.Node v)) at) in two_lower many (Item k d) (Item prev d) (Node v d) (omega (arith, p)) (omega arith)

  item_lower : (k d i : ℕ) (part : List Goal) (it : Option ItemNode) → slice_get f.items k ≡ it →
      slice_get (map (behind_entry d) (entries_in it)) i ≡ Some part → weight many part < pow3 (level many (Item k d))
  item_lower k d i part None e has = cc
  item_lower k d i part (Some it) e has =
      let m = unmapped_at (behind_entry d) it.entries i part has in
      subst (λ (z : List Goal). weight many z < pow3 (level many (Item k d))) m.2 (entry_lower d k i it m.0 e m.1)

  node_lower : (v d i : ℕ) (part : List Goal) (node : Option forest.Node) → slice_get f.nodes v ≡ node →
      slice_get (map (behind_choice d) (choices_in node)) i ≡ Some part → weight many part < pow3 (level many (Node v (suc d)))
  node_lower v d i part None e has = cc
  node_lower v d i part (Some node) e has =
      let m = unmapped_at (behind_choice d) node.alternatives i part has in
      let p = good.forest.alternatives v node m.0 e (contains_from_at node.alternatives i m.0 m.1) in
      subst (λ (z : List Goal). weight many z < pow3 (level many (Node v (suc d)))) m.2
      (one_lower many (Node v (suc d)) (Item m.0.item d) (omega (arith, p)))

  leaf_lower : (span : Span) (part : List Goal) → Some [] ≡ Some part → weight many part < pow3 (level many (Leaf span))
  leaf_lower span [] has = omega arith
  leaf_lower span (g ∷ gs) has = cc

  pub part_lower : (g : Goal) (i : ℕ) (part : List Goal) → slice_get (options f g) i ≡ Some part → weight many part < pow3 (level many g)
  part_lower (Node v zero) i part has = cc
  part_lower (Node v (suc d)) i part has = node_lower v d i part (slice_get f.nodes v) refl has
  part_lower (Item k d) i part has = item_lower k d i part (slice_get f.items k) refl has
  part_lower (Leaf span) zero part has = leaf_lower span part has
  part_lower (Leaf span) (suc i) part has = cc

  pub visit_lower : (g : Goal) (rest part : List Goal) (i : ℕ) → slice_get (options f g) i ≡ Some part →
      weight many (part ++ rest) < weight many (g ∷ rest)
  visit_lower g rest part i has =
      let a = part_lower g i part has in let b = weight_join many part rest in omega (arith, a, b)
