-- Bounds on the spines of trees.
use Rattle.std.specs.Prelude.{ℕ, ◌≤◌}
use Rattle.ig_text.specs.declared.tag.Tag.{Tag}
use Rattle.ig_text.specs.Tree.{Tree, Trees}
use Rattle.ig_grammar.specs.Numbering.{Levelled}
use Rattle.ig_meaning.specs.Operands.{left_bound, right_bound}
use Rattle.ig_meaning.specs.Clean.{EndsInOperand, BeginsWithOperand, OnRightSpine, OnLeftSpine}
use Rattle.ig_grammar.specs.declared.grammar.Grammar.{Grammar}

module _ (g : Grammar) where
  -- on the left spine, each node with a left operand has at least the level l;
  -- on the right spine, each node with a right operand has at least the level r
  pub record AtLeast (l r : ℕ) (t : Tree) : Type 0 where
    pub left : (b : Levelled) (other : Tree) (low : Tag) (us : Trees) → OnLeftSpine g t low us →
        BeginsWithOperand g low us b other → l ≤ b.level
    pub right : (b : Levelled) (other : Tree) (low : Tag) (us : Trees) → OnRightSpine g t low us →
        EndsInOperand g low us b other → r ≤ b.level

  -- what a node asks of itself and of its operands under the bounds l and r
  pub record Asks (l r : ℕ) (tag : Tag) (children : Trees) : Type 0 where
    pub first : (a : Levelled) (t : Tree) → BeginsWithOperand g tag children a t →
        (l ≤ a.level) × AtLeast l (left_bound a) t
    pub last : (a : Levelled) (t : Tree) → EndsInOperand g tag children a t →
        (r ≤ a.level) × AtLeast (right_bound a) r t
