-- Derivation trees, and their height.
use Rattle.std.specs.Prelude.{ℕ, ◌+◌, max}
use Rattle.ig_text.specs.declared.tag.Tag.{Tag}

mutual
  -- a tree is a leaf, which is a span of the text, or a node with a tag, a span and children
  pub data Tree : Type 0 where
    Leaf : (i j : ℕ) → Tree
    Node : (tag : Tag) (i j : ℕ) (children : Trees) → Tree

  -- trees in order
  pub data Trees : Type 0 where
    none : Trees
    more : (first : Tree) (others : Trees) → Trees

-- one tree alone
abbrev pub one : Tree → Trees
one t = more t none

-- the trees of both, in order
abbrev pub join : Trees → Trees → Trees
join none us = us
join (more t ts) us = more t (join ts us)

abbrev mutual
  -- a leaf has height 0, a node one more than the greatest height of its children
  pub height : Tree → ℕ
  height (Leaf i j) = 0
  height (Node tag i j children) = greatest_height children + 1

  -- the greatest height of the trees, 0 where there is none
  pub greatest_height : Trees → ℕ
  greatest_height none = 0
  greatest_height (more t ts) = max (height t) (greatest_height ts)
