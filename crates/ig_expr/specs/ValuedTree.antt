-- Trees whose nodes have values: what the labels and lets of their alternatives bind.
use Rattle.std.specs.Prelude.{ℕ, List}
use Rattle.ig_text.specs.declared.tag.Tag.{Tag}
use Rattle.ig_text.specs.Tree as plain
use Rattle.ig_expr.specs.declared.value.Value.{Value}

mutual
  -- a leaf, or a node with the values that its alternative binds, in order of binding
  pub data Tree : Type 0 where
    Leaf : (i j : ℕ) → Tree
    Node : (tag : Tag) (bound : List Value) (i j : ℕ) (children : Trees) → Tree

  pub data Trees : Type 0 where
    none : Trees
    more : (first : Tree) (others : Trees) → Trees

abbrev pub one : Tree → Trees
one t = more t none

abbrev pub join : Trees → Trees → Trees
join none us = us
join (more t ts) us = more t (join ts us)

abbrev mutual
  -- without the values
  pub bare_tree : Tree → plain.Tree
  bare_tree (Leaf i j) = plain.Leaf i j
  bare_tree (Node tag bound i j children) = plain.Node tag i j (bare_trees children)

  pub bare_trees : Trees → plain.Trees
  bare_trees none = plain.none
  bare_trees (more t ts) = plain.more (bare_tree t) (bare_trees ts)
