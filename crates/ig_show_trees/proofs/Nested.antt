-- The parts of a tree, one after another with the brackets that they close, give its text.
use Rattle.std.proofs.Common.{◌≡◌, ◌∙◌, ap, sym, refl, subst, ℕ, ◌<◌, ◌≤◌, List, [], ◌∷◌, ◌++◌, Some, reverse, length, drop, get_or, Contains, append_assoc}
use Rattle.std.specs.Prelude.{codes}
use Rattle.std.proofs.lemmas.List.{append-nil, at_drop_all}
use Rattle.std.proofs.lemmas.List.Elements.{All-contains_itself}
use Rattle.ig_text.specs.Tree.{Tree, Trees, Leaf, Node, none, more}
use Rattle.ig_text.specs.declared.tag.Tag.TheVariants.{Rule}
use Rattle.ig_item.specs.declared.core_grammar.Nonterminal.{Nonterminal}
use Rattle.ig_forest.specs.Flat.{count, flat, flats}
use Rattle.ig_forest.specs.Tags.{TagsAreNamed}
use Rattle.ig_forest.specs.declared.tree.Part.{Part}
use Rattle.ig_show_trees.specs.TreeText.{head_text, tree_text, children_text}
use Rattle.ig_show_trees.specs.Nesting.{closing, left_open, parts_text}

module _ (core : List Nonterminal) where
  -- what is written behind a tree where so much is open
  abbrev rest : List ℕ → List Part → List ℕ
  rest counts ps = closing counts ++ parts_text core (left_open counts) ps

  mutual
    tree_parts : (t : Tree) (counts : List ℕ) (ps : List Part) →
        parts_text core counts (flat t ++ ps) ≡ tree_text core t ++ rest counts ps
    tree_parts (Leaf i j) counts ps = refl
    tree_parts (Node tag i j ts) counts ps =
        ap (λ z. head_text core tag i j ++ z) (list_parts ts counts ps) ∙
        ap (λ z. head_text core tag i j ++ z) (sym (append_assoc (children_text core ts) (codes ")") (rest counts ps))) ∙
        sym (append_assoc (head_text core tag i j) (children_text core ts ++ codes ")") (rest counts ps))

    list_parts : (ts : Trees) (counts : List ℕ) (ps : List Part) →
        rest (count ts ∷ counts) (flats ts ++ ps) ≡ children_text core ts ++ (codes ")" ++ rest counts ps)
    list_parts none counts ps = append_assoc (codes ")") (closing counts) (parts_text core (left_open counts) ps)
    list_parts (more t ts) counts ps =
        let behind : List ℕ = codes ")" ++ rest counts ps in
        ap (λ z. codes " " ++ parts_text core (count ts ∷ counts) z) (append_assoc (flat t) (flats ts) ps) ∙
        ap (λ z. codes " " ++ z) (tree_parts t (count ts ∷ counts) (flats ts ++ ps)) ∙
        ap (λ z. codes " " ++ (tree_text core t ++ z)) (list_parts ts counts ps) ∙
        ap (λ z. codes " " ++ z) (sym (append_assoc (tree_text core t) (children_text core ts) behind)) ∙
        sym (append_assoc (codes " ") (tree_text core t ++ children_text core ts) behind)

  pub tree_whole : (t : Tree) → parts_text core [] (flat t) ≡ tree_text core t
  tree_whole t =
      ap (parts_text core []) (sym (append-nil (flat t))) ∙ tree_parts t [] [] ∙ append-nil (tree_text core t)

-- what the loop has still to close is what there was to close, behind what is written
pub record Closes (old : List ℕ) (before : List ℕ) (out : List ℕ) (counts : List ℕ) : Type 0 where
  pub text : out ++ closing (reverse counts) ≡ old ++ closing (reverse before)
  pub left : left_open (reverse counts) ≡ left_open (reverse before)

-- once all parts are written, so is the tree
pub all_written : (core : List Nonterminal) (t : Tree) (tree slice : List Part) (i : ℕ) (counts out old : List ℕ) →
    tree ≡ flat t → slice ≡ tree → length slice ≤ i →
    out ++ parts_text core counts (drop i tree) ≡ old ++ parts_text core [] tree → out ≡ old ++ tree_text core t
all_written core t tree slice i counts out old whole same over written =
    let past : length tree ≤ i = subst (λ z. length z ≤ i) same over in
    sym (append-nil out) ∙ ap (λ z. out ++ z) (sym (at_drop_all (parts_text core counts) tree i past)) ∙ written ∙
    ap (λ z. old ++ parts_text core [] z) whole ∙ ap (λ z. old ++ z) (tree_whole core t)

-- the tag of each part names a nonterminal
pub named_at : (core : List Nonterminal) (tree slice : List Part) (i : ℕ) (d : Part) → TagsAreNamed core tree → slice ≡ tree →
    i < length slice → (n k : ℕ) → (get_or slice i d).tag ≡ Some (Rule n k) → n < length core
named_at core tree slice i d named same within n k e =
    named (get_or slice i d) n k (subst (λ z. Contains z (get_or slice i d)) same (All-contains_itself slice i d within)) e
