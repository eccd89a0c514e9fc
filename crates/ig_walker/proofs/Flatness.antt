-- The parts of a tree make the tree.
use Rattle.std.proofs.Common.{◌≡◌, ℕ, List, [], ◌∷◌, ◌++◌, Some, None, refl, sym, ap, ◌∙◌, append_assoc}
use Rattle.std.proofs.lemmas.Option.{same_Some}
use Rattle.ig_text.specs.declared.tag.Tag.{Tag}
use Rattle.ig_text.specs.Tree.{Tree, Trees, Leaf, Node, none, more}
use Rattle.ig_text.proofs.Equal.{same_first, same_rest}
use Rattle.ig_forest.specs.Flat.{count, flat, flats}
use Rattle.ig_forest.specs.declared.tree.Part.{Part}

abbrev leaf_part : ℕ → ℕ → Part
leaf_part i j = record { tag = None; span = record { begin = i; end = j }; children = 0 }

abbrev node_part : Tag → ℕ → ℕ → ℕ → Part
node_part tag i j n = record { tag = Some tag; span = record { begin = i; end = j }; children = n }

kinds_differ : (tag : Tag) (i j k l n : ℕ) → leaf_part i j ≡ node_part tag k l n → ⊥
kinds_differ tag i j k l n e = let p = ap (λ (z : Part). z.tag) e in cc

leaf_same : (i j k l : ℕ) → leaf_part i j ≡ leaf_part k l → Leaf i j ≡ Leaf k l
leaf_same i j k l e =
    let p : i ≡ k = ap (λ (z : Part). z.span.begin) e in
    let q : j ≡ l = ap (λ (z : Part). z.span.end) e in cc

node_same : (a b : Tag) (i j k l m n : ℕ) (ts us : Trees) → node_part a i j m ≡ node_part b k l n → ts ≡ us →
    Node a i j ts ≡ Node b k l us
node_same a b i j k l m n ts us e same =
    let o : a ≡ b = same_Some a b (ap (λ (z : Part). z.tag) e) in
    let p : i ≡ k = ap (λ (z : Part). z.span.begin) e in
    let q : j ≡ l = ap (λ (z : Part). z.span.end) e in cc

mutual
  pub ahead : (t u : Tree) (xs ys : List Part) → flat t ++ xs ≡ flat u ++ ys → (t ≡ u) × (xs ≡ ys)
  ahead (Leaf i j) (Leaf k l) xs ys e =
      (leaf_same i j k l (same_first (leaf_part i j) (leaf_part k l) xs ys e), same_rest (leaf_part i j) (leaf_part k l) xs ys e)
  ahead (Leaf i j) (Node tag k l us) xs ys e =
      absurd (kinds_differ tag i j k l (count us) (same_first (leaf_part i j) (node_part tag k l (count us)) xs (flats us ++ ys) e))
  ahead (Node tag i j ts) (Leaf k l) xs ys e =
      absurd (kinds_differ tag k l i j (count ts) (sym (same_first (node_part tag i j (count ts)) (leaf_part k l) (flats ts ++ xs) ys e)))
  ahead (Node a i j ts) (Node b k l us) xs ys e =
      let p = same_first (node_part a i j (count ts)) (node_part b k l (count us)) (flats ts ++ xs) (flats us ++ ys) e in
      let r = all_ahead ts us xs ys (ap (λ (z : Part). z.children) p)
      (same_rest (node_part a i j (count ts)) (node_part b k l (count us)) (flats ts ++ xs) (flats us ++ ys) e) in
      (node_same a b i j k l (count ts) (count us) ts us p r.0, r.1)

  all_ahead : (ts us : Trees) (xs ys : List Part) → count ts ≡ count us → flats ts ++ xs ≡ flats us ++ ys → (ts ≡ us) × (xs ≡ ys)
  all_ahead none none xs ys many e = (refl, e)
  all_ahead none (more u us) xs ys many e = cc
  all_ahead (more t ts) none xs ys many e = cc
  all_ahead (more t ts) (more u us) xs ys many e =
      let p = ahead t u (flats ts ++ xs) (flats us ++ ys)
      (sym (append_assoc (flat t) (flats ts) xs) ∙ e ∙ append_assoc (flat u) (flats us) ys) in
      let r = all_ahead ts us xs ys (cc) p.1 in
      let a = p.0 in let b = r.0 in
      (cc, r.1)

pub parts_one : (t u : Tree) → flat t ≡ flat u → t ≡ u
parts_one t u e = (ahead t u [] [] (ap (λ (z : List Part). z ++ []) e)).0
