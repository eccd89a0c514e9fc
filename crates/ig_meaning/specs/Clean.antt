-- Which trees keep to the levels of operators, along whole spines.
use Rattle.std.specs.Prelude.{◌≡◌, ℕ, ◌≤◌}
use Rattle.ig_text.specs.declared.tag.Tag.{Tag}
use Rattle.ig_text.specs.declared.tag.Tag.TheVariants.{Rule}
use Rattle.ig_text.specs.Tree.{Tree, Trees, Leaf, Node, none, more, one, join}
use Rattle.ig_grammar.specs.Numbering.{Levelled, IsDeclaration, IsAlternative}
use Rattle.ig_meaning.specs.Operands.{HasLeftOperand, HasRightOperand, left_bound, right_bound}
use Rattle.ig_grammar.specs.declared.declaration.Decl.{Decl}
use Rattle.ig_grammar.specs.declared.grammar.Grammar.{Grammar}

module _ (g : Grammar) where
  -- a node's tag is that of the alternative of the declaration
  pub record Applies (tag : Tag) (decl : Decl) (a : Levelled) : Type 0 where
    pub d : ℕ
    pub k : ℕ
    pub tagged : tag ≡ Rule d k
    pub declaration : IsDeclaration g d decl
    pub numbered : IsAlternative decl k a

  -- a node by an alternative with a right operand, whose tree is the last child
  pub record EndsInOperand (tag : Tag) (children : Trees) (a : Levelled) (operand : Tree) : Type 0 where
    pub decl : Decl
    pub applies : Applies tag decl a
    pub has : HasRightOperand decl.name a.alternative.symbols
    pub before : Trees
    pub last : children ≡ join before (one operand)

  -- a node by an alternative with a left operand, whose tree is the first child
  pub record BeginsWithOperand (tag : Tag) (children : Trees) (a : Levelled) (operand : Tree) : Type 0 where
    pub decl : Decl
    pub applies : Applies tag decl a
    pub has : HasLeftOperand decl.name a.alternative.symbols
    pub after : Trees
    pub first : children ≡ more operand after

  -- the nodes on the right spine of a tree: its own, and those on the right spine of its right operand
  pub data OnRightSpine : Tree → Tag → Trees → Type 0 where
    right_top : (tag : Tag) (i j : ℕ) (ts : Trees) → OnRightSpine (Node tag i j ts) tag ts
    right_below : (tag : Tag) (i j : ℕ) (ts : Trees) (a : Levelled) (operand : Tree) (low : Tag) (us : Trees) →
        EndsInOperand tag ts a operand → OnRightSpine operand low us → OnRightSpine (Node tag i j ts) low us

  -- the nodes on the left spine of a tree: its own, and those on the left spine of its left operand
  pub data OnLeftSpine : Tree → Tag → Trees → Type 0 where
    left_top : (tag : Tag) (i j : ℕ) (ts : Trees) → OnLeftSpine (Node tag i j ts) tag ts
    left_below : (tag : Tag) (i j : ℕ) (ts : Trees) (a : Levelled) (operand : Tree) (low : Tag) (us : Trees) →
        BeginsWithOperand tag ts a operand → OnLeftSpine operand low us → OnLeftSpine (Node tag i j ts) low us

  -- what a node asks of its operands
  pub record IsClean (tag : Tag) (children : Trees) : Type 0 where
    -- on the right spine of the left operand, each node with a right operand has at least the left bound as its level
    pub left : (a b : Levelled) (operand other : Tree) (low : Tag) (us : Trees) → BeginsWithOperand tag children a operand →
        OnRightSpine operand low us → EndsInOperand low us b other → left_bound a ≤ b.level
    -- on the left spine of the right operand, each node with a left operand has at least the right bound as its level
    pub right : (a b : Levelled) (operand other : Tree) (low : Tag) (us : Trees) → EndsInOperand tag children a operand →
        OnLeftSpine operand low us → BeginsWithOperand low us b other → right_bound a ≤ b.level

  -- each node of the tree is clean
  abbrev mutual
    pub Clean : Tree → Type 0
    Clean (Leaf i j) = Unit {0}
    Clean (Node tag i j children) = IsClean tag children × AllClean children

    pub AllClean : Trees → Type 0
    AllClean none = Unit {0}
    AllClean (more t ts) = Clean t × AllClean ts
