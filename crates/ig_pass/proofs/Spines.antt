-- Trees are clean in a grammar whose operands are those of the other one.
use Rattle.ig_text.specs.declared.tag.Tag.{Tag}
use Rattle.ig_text.specs.Tree.{Tree, Trees, Leaf, Node, none, more}
use Rattle.ig_grammar.specs.Numbering.{Levelled}
use Rattle.ig_grammar.specs.declared.grammar.Grammar.{Grammar}
use Rattle.ig_meaning.specs.Clean.{EndsInOperand, BeginsWithOperand, OnRightSpine, OnLeftSpine, right_top, right_below, left_top, left_below, IsClean, Clean, AllClean}

module _ (g h : Grammar)
    (ends : (tag : Tag) (ts : Trees) (a : Levelled) (t : Tree) → EndsInOperand h tag ts a t → EndsInOperand g tag ts a t)
    (begins : (tag : Tag) (ts : Trees) (a : Levelled) (t : Tree) → BeginsWithOperand h tag ts a t → BeginsWithOperand g tag ts a t) where
  right_spine : {t : Tree} {tag : Tag} {us : Trees} → OnRightSpine h t tag us → OnRightSpine g t tag us
  right_spine (right_top tag i j ts) = right_top tag i j ts
  right_spine (right_below tag i j ts a operand low us last spine) = right_below tag i j ts a operand low us (ends tag ts a operand last) (right_spine spine)

  left_spine : {t : Tree} {tag : Tag} {us : Trees} → OnLeftSpine h t tag us → OnLeftSpine g t tag us
  left_spine (left_top tag i j ts) = left_top tag i j ts
  left_spine (left_below tag i j ts a operand low us first spine) = left_below tag i j ts a operand low us (begins tag ts a operand first) (left_spine spine)

  clean_node : (tag : Tag) (ts : Trees) → IsClean g tag ts → IsClean h tag ts
  clean_node tag ts c =
      record {
        left = λ a b operand other low us first spine last. c.left a b operand other low us (begins tag ts a operand first) (right_spine spine) (ends low us b other last);
        right = λ a b operand other low us last spine first. c.right a b operand other low us (ends tag ts a operand last) (left_spine spine) (begins low us b other first);
      }

  mutual
    pub cleaned : (t : Tree) → Clean g t → Clean h t
    cleaned (Leaf i j) c = tt
    cleaned (Node tag i j ts) c = (clean_node tag ts c.0, all_cleaned ts c.1)

    pub all_cleaned : (ts : Trees) → AllClean g ts → AllClean h ts
    all_cleaned none c = tt
    all_cleaned (more t ts) c = (cleaned t c.0, all_cleaned ts c.1)
