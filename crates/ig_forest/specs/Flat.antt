-- A tree as the list of its parts, in preorder.
use Rattle.std.specs.Prelude.{ℕ, suc, List, [], ◌∷◌, ◌++◌, Some, None}
use Rattle.ig_text.specs.Tree.{Tree, Trees, Leaf, Node, none, more}
use Rattle.ig_forest.specs.declared.tree.Part.{Part}

-- how many trees they are
abbrev pub count : Trees → ℕ
count none = 0
count (more t ts) = suc (count ts)

abbrev mutual
  -- a leaf has no tag; a node comes before its children, and tells their number
  pub flat : Tree → List Part
  flat (Leaf i j) = record { tag = None; span = record { begin = i; end = j }; children = 0 } ∷ []
  flat (Node tag i j ts) =
      record { tag = Some tag; span = record { begin = i; end = j }; children = count ts } ∷ flats ts

  pub flats : Trees → List Part
  flats none = []
  flats (more t ts) = flat t ++ flats ts
