-- The heights of a forest from those that its rules give.
use Rattle.std.proofs.Common.{◌≡◌, ◌↔◌, inl, inr, ℕ, ◌+◌, ◌<◌, ◌≤◌, List, [], ◌∷◌, ◌++◌, Bool, true, false, IsTrue, Some, length, slice_get, sym, ap, ◌∙◌, subst, arith}
use Rattle.std.proofs.lemmas.Option.{slice_get_within}
use Rattle.ig_text.proofs.Orders.{le_or_lt}
use Rattle.ig_forest_tables.specs.Forest.{Forest}
use Rattle.ig_forest_tables.specs.Unfold.{IsTrim, HasTrees}
use Rattle.ig_heights.specs.Heights.{IsLeastOfNode, IsLeastOfItem, AreHeights}
use Rattle.ig_heights.specs.Rules.{height_at, AreLeast, IsPart}
use Rattle.ig_heights.specs.Table.{IsLeastTable, IsWholeTable}
use Rattle.ig_heights.specs.declared.rule.Table.{Table}
use Rattle.ig_heights.proofs.Numbers.{long_push}
use Rattle.ig_heights.proofs.Exact.{node_exact, item_exact, node_small, item_small}
use Rattle.ig_heights.proofs.Endless.{cyclic, bounded}
use Rattle.ig_heights.proofs.Linking.{at_push}

abbrev no_numbers : List ℕ
no_numbers = []

pub part_none : (heights : List ℕ) (from : ℕ) (list : List ℕ) → list ≡ [] → IsPart heights from 0 list
part_none heights from list none =
    record { long = ap length none; same = λ k h e. absurd (never k h (ap (λ (z : List ℕ). slice_get z k) (sym none) ∙ e)) }
  where
    never : (k h : ℕ) → slice_get no_numbers k ≡ Some h → ⊥
    never k h e = cc

pub part_next : (heights : List ℕ) (from k m : ℕ) (list more : List ℕ) (x : ℕ) → m ≡ k + 1 → IsPart heights from k list →
    more ≡ list ++ x ∷ [] → x ≡ height_at heights (from + k) → IsPart heights from m more
part_next heights from k m list more x next part is x_is =
    record {
      long = (let l = part.long in let n = ap length is ∙ long_push list x in omega (arith, l, n, next));
      same = λ j h e. elim (at_push list x j h (ap (λ (z : List ℕ). slice_get z j) (sym is) ∙ e)) [
        | inl old ↦ part.same j h old
        | inr new ↦
            let l = part.long in let n = new.0 in
            let same : j ≡ k = omega (arith, l, n) in
            new.1 ∙ x_is ∙ ap (λ (n : ℕ). height_at heights (from + n)) (sym same)
      ];
    }

module _ (f : Forest) (l : Table) (rules : IsLeastTable f l) (hs : List ℕ) (least : AreLeast l hs) (trim : IsTrim f) (live : HasTrees f) where
  pub nodes_small : (few : length f.nodes < 4294967296) (n : ℕ) → n ≡ length f.nodes → (k : ℕ) → k < n →
      height_at hs (0 + k) < 4294967296
  nodes_small few n is k less =
      let z : 0 + k ≡ k = omega arith in
      let e = ap (height_at hs) z in
      let s = node_small f l rules hs least trim live k (omega (arith, less, is)) in omega (arith, e, s, few)

  pub items_small : (few : length f.nodes < 4294967296) (n m : ℕ) → m ≡ length f.nodes → n ≡ length f.items → (k : ℕ) → k < n →
      height_at hs (m + k) < 4294967296
  items_small few n m many is k less =
      let e = ap (λ (z : ℕ). height_at hs (z + k)) many in
      let s = item_small f l rules hs least trim live k (omega (arith, less, is)) in omega (arith, e, s, few)

  pub nodes_there : (n : ℕ) → n ≡ length f.nodes → 0 + n ≤ length hs
  nodes_there n is = let a = least.long in let b = rules.parts in let g = rules.bottom in omega (arith, is, a, b, g)

  pub items_there : (n m : ℕ) → m ≡ length f.nodes → n ≡ length f.items → m + n ≤ length hs
  items_there n m many is = let a = least.long in let b = rules.parts in let g = rules.bottom in omega (arith, is, many, a, b, g)

  module _ (t : Table) (whole : IsWholeTable l t) (ws : List ℕ) (wide : AreLeast t ws) where
    pub heights_are : (nodes items : List ℕ) (n m i root : ℕ) (b : Bool) → n ≡ length f.nodes → m ≡ length f.nodes → i ≡ length f.items →
        root ≡ f.root → IsPart hs 0 n nodes → IsPart hs m i items → (IsTrue b ↔ (m < height_at ws root)) →
        AreHeights f (record { nodes = nodes; items = items; cyclic = b })
    heights_are nodes items n m i root b n_is m_is i_is root_is node_part item_part above =
        record {
          nodes = node_part.long ∙ n_is;
          items = item_part.long ∙ i_is;
          node = λ v h e.
              let w = slice_get_within nodes v h e in let long = node_part.long in
              let z : 0 + v ≡ v = omega arith in
              subst (IsLeastOfNode f v) (sym (node_part.same v h e ∙ ap (height_at hs) z))
              (node_exact f l rules hs least trim live v (omega (arith, w, long, n_is)));
          item = λ k h e.
              let w = slice_get_within items k h e in let long = item_part.long in
              subst (IsLeastOfItem f k) (sym (item_part.same k h e ∙ ap (λ (z : ℕ). height_at hs (z + k)) m_is))
              (item_exact f l rules hs least trim live k (omega (arith, w, long, i_is)));
          cyclic = (
            λ holds. cyclic f l t rules whole ws wide trim live (open_root (above.0 holds)),
            λ endless. elim (le_or_lt (height_at ws root) m) [
              | inr high ↦ above.1 high
              | inl low ↦
                  let h = endless (length f.nodes) in let high = h.4 in
                  let low_all = bounded f l t rules whole ws wide (known_root low) h.0 h.1 h.2 h.3 in absurd (omega (arith, high, low_all))
            ],
          );
          bounded = λ fails. elim (le_or_lt (height_at ws root) m) [
            | inl low ↦ bounded f l t rules whole ws wide (known_root low)
            | inr high ↦ absurd (both b (above.1 high) fails)
          ];
        }
      where
        at_root : height_at ws root ≡ height_at ws f.root
        at_root = ap (height_at ws) root_is

        open_root : m < height_at ws root → length f.nodes < height_at ws f.root
        open_root high = let e = at_root in omega (arith, high, e, m_is)

        known_root : height_at ws root ≤ m → height_at ws f.root ≤ length f.nodes
        known_root low = let e = at_root in omega (arith, low, e, m_is)

        both : (b : Bool) → IsTrue b → b ≡ false → ⊥
        both true holds fails = cc
        both false holds fails = cc
