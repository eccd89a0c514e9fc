-- The order of trees of one symbol over one span, from one environment, by their first difference.
use Rattle.std.specs.Prelude.{◌≡◌, ℕ, suc}
use Rattle.std.specs.declared.cmp.Ordering.{Ordering}
use Rattle.std.specs.declared.cmp.Ordering.TheVariants.{Less, Equal, Greater}
use Rattle.std.specs.Ordering.{ordering_then, ordering_reverse, nat_cmp}
use Rattle.ig_text.specs.TagNumber.{number_of}
use Rattle.ig_expr.specs.ValueOrder.{values_cmp}
use Rattle.ig_expr.specs.ValuedTree.{Tree, Trees, Leaf, Node, none, more, one, join}

abbrev pub begin_of : Tree → ℕ
begin_of (Leaf i j) = i
begin_of (Node tag bound i j children) = i

-- lists of children by where these start, the last child first
abbrev pub starts_cmp : Trees → Trees → Ordering
starts_cmp none none = Equal
starts_cmp none (more u us) = Less
starts_cmp (more t ts) none = Greater
starts_cmp (more t ts) (more u us) = ordering_then (starts_cmp ts us) (nat_cmp (begin_of t) (begin_of u))

abbrev mutual
  -- by the tag's number, then by the bound values, then by where the children start, then by the children in order
  pub tree_cmp : Tree → Tree → Ordering
  tree_cmp (Leaf i j) (Leaf k l) = Equal
  tree_cmp (Leaf i j) (Node tag bound k l us) = Less
  tree_cmp (Node tag bound i j ts) (Leaf k l) = Greater
  tree_cmp (Node tag bound i j ts) (Node other values k l us) =
      ordering_then (nat_cmp (number_of tag) (number_of other))
      (ordering_then (values_cmp bound values) (ordering_then (starts_cmp ts us) (trees_cmp ts us)))

  pub trees_cmp : Trees → Trees → Ordering
  trees_cmp none none = Equal
  trees_cmp none (more u us) = Less
  trees_cmp (more t ts) none = Greater
  trees_cmp (more t ts) (more u us) = ordering_then (tree_cmp t u) (trees_cmp ts us)

-- lists of children: where they start decides before what they are
abbrev pub children_cmp : Trees → Trees → Ordering
children_cmp ts us = ordering_then (starts_cmp ts us) (trees_cmp ts us)

-- the number of trees
abbrev pub count_of : Trees → ℕ
count_of none = 0
count_of (more t ts) = suc (count_of ts)

-- of two lists of children as long as each other the start of the last child decides first, then the children before
-- it, by this same rule, and then the last child
abbrev pub LastChildStartsDecide : Type 0
LastChildStartsDecide =
    (ts us : Trees) (t u : Tree) → count_of ts ≡ count_of us →
    children_cmp (join ts (one t)) (join us (one u)) ≡
    ordering_then (nat_cmp (begin_of t) (begin_of u)) (ordering_then (children_cmp ts us) (tree_cmp t u))

-- a tree doesn't differ from itself, of two trees that differ one stands before the other, what stands before a tree
-- stands before all behind that one, and trees that don't differ stand alike to each other tree
pub record IsAnOrder : Type 0 where
  pub itself : (t : Tree) → tree_cmp t t ≡ Equal
  pub turned : (t u : Tree) → tree_cmp t u ≡ ordering_reverse (tree_cmp u t)
  pub onward : (t u v : Tree) → tree_cmp t u ≡ Less → tree_cmp u v ≡ Less → tree_cmp t v ≡ Less
  pub alike : (t u v : Tree) → tree_cmp t u ≡ Equal → tree_cmp t v ≡ tree_cmp u v
