-- The texts of trees and of cursors, as UTF-8.
use Rattle.std.specs.Prelude.{ℕ, List, [], ◌∷◌, ◌++◌, Option, None, Some, flat_map, codes, slice_get}
use Rattle.std.specs.Fmt.{decimal}
use Rattle.ig_text.specs.Tree.{Tree, Trees, Leaf, Node, none, more}
use Rattle.ig_text.specs.declared.tag.Tag.{Tag}
use Rattle.ig_text.specs.declared.tag.Tag.TheVariants.{Rule}
use Rattle.ig_item.specs.declared.core_grammar.Nonterminal.{Nonterminal}
use Rattle.ig_show_texts.specs.TagText.{tag_text}
use Rattle.ig_show_texts.specs.ValueText.{places_text}

abbrev pub name_in : Option Nonterminal → List ℕ
name_in None = []
name_in (Some nonterminal) = nonterminal.name

-- the name that a tag prints with: that of the nonterminal whose alternative it is; the other tags have none
abbrev pub name_for : List Nonterminal → Tag → List ℕ
name_for core (Rule n k) = name_in (slice_get core n)
name_for core other = []

-- `(TAG i..j`
abbrev pub head_text : List Nonterminal → Tag → ℕ → ℕ → List ℕ
head_text core tag i j = codes "(" ++ (tag_text (name_for core tag) tag ++ (codes " " ++ places_text i j))

module _ (core : List Nonterminal) where
  abbrev mutual
    -- a leaf is `i..j`; a node is `(TAG i..j`, its children, each behind a space, and `)`
    pub tree_text : Tree → List ℕ
    tree_text (Leaf i j) = places_text i j
    tree_text (Node tag i j ts) = head_text core tag i j ++ (children_text ts ++ codes ")")

    pub children_text : Trees → List ℕ
    children_text none = []
    children_text (more t ts) = codes " " ++ (tree_text t ++ children_text ts)

-- the numbers, with a point between two; `only` where there is none
abbrev pub cursor_text : List ℕ → List ℕ
cursor_text [] = codes "only"
cursor_text (n ∷ ns) = decimal n ++ flat_map (λ m. codes "." ++ decimal m) ns
