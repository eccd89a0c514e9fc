-- Bounds of a node are those that it hands down.
use Rattle.std.proofs.Common.{ℕ, ◌≤◌, arith}
use Rattle.ig_text.specs.declared.tag.Tag.{Tag}
use Rattle.ig_text.specs.Tree.{Tree, Trees, Node}
use Rattle.ig_grammar.specs.Numbering.{Levelled}
use Rattle.ig_meaning.specs.Clean.{EndsInOperand, BeginsWithOperand, OnRightSpine, OnLeftSpine, IsClean}
use Rattle.ig_meaning.specs.Clean.{right_top, right_below, left_top, left_below}
use Rattle.ig_grammar.specs.declared.grammar.Grammar.{Grammar}
use Rattle.ig_levels.specs.Spines.{AtLeast, Asks}

module _ (g : Grammar) where
  pub no_bounds : (t : Tree) → AtLeast g 0 0 t
  no_bounds t = record { left = λ b other low us on has. omega arith; right = λ b other low us on has. omega arith }

  left_on : (l r : ℕ) (tag : Tag) (i j : ℕ) (children : Trees) → Asks g l r tag children →
      (b : Levelled) (other : Tree) (low : Tag) (us : Trees) → OnLeftSpine g (Node tag i j children) low us →
      BeginsWithOperand g low us b other → l ≤ b.level
  left_on l r tag i j children asks b other low us (left_top tag1 i1 j1 ts1) has = (asks.first b other has).0
  left_on l r tag i j children asks b other low us (left_below tag1 i1 j1 ts1 a operand low1 us1 begins below) has =
      (asks.first a operand begins).1.left b other low us below has

  right_on : (l r : ℕ) (tag : Tag) (i j : ℕ) (children : Trees) → Asks g l r tag children →
      (b : Levelled) (other : Tree) (low : Tag) (us : Trees) → OnRightSpine g (Node tag i j children) low us →
      EndsInOperand g low us b other → r ≤ b.level
  right_on l r tag i j children asks b other low us (right_top tag1 i1 j1 ts1) has = (asks.last b other has).0
  right_on l r tag i j children asks b other low us (right_below tag1 i1 j1 ts1 a operand low1 us1 ends below) has =
      (asks.last a operand ends).1.right b other low us below has

  pub node_at_least : (l r : ℕ) (tag : Tag) (i j : ℕ) (children : Trees) → Asks g l r tag children →
      AtLeast g l r (Node tag i j children)
  node_at_least l r tag i j children asks =
      record { left = left_on l r tag i j children asks; right = right_on l r tag i j children asks }

  pub node_is_clean : (l r : ℕ) (tag : Tag) (children : Trees) → Asks g l r tag children → IsClean g tag children
  node_is_clean l r tag children asks =
      record {
        left = λ a b operand other low us begins on ends. (asks.first a operand begins).1.right b other low us on ends;
        right = λ a b operand other low us ends on begins. (asks.last a operand ends).1.left b other low us on begins;
      }

  pub asked : (l r : ℕ) (tag : Tag) (i j : ℕ) (children : Trees) → IsClean g tag children →
      AtLeast g l r (Node tag i j children) → Asks g l r tag children
  asked l r tag i j children clean bounds =
      record {
        first = λ a t begins. (
          bounds.left a t tag children (left_top tag i j children) begins,
          record {
            left = λ b other low us on has. bounds.left b other low us (left_below tag i j children a t low us begins on) has;
            right = λ b other low us on has. clean.left a b t other low us begins on has;
          },
        );
        last = λ a t ends. (
          bounds.right a t tag children (right_top tag i j children) ends,
          record {
            left = λ b other low us on has. clean.right a b t other low us ends on has;
            right = λ b other low us on has. bounds.right b other low us (right_below tag i j children a t low us ends on) has;
          },
        );
      }
