-- Worked values of expressions.
use Rattle.std.specs.Prelude.{◌≡◌, ℕ, Bool, List, [], ◌∷◌, ◌++◌, Option, Some, None, false, true, codes, ℤ, pos, negsuc}
use Rattle.ig_text.specs.Input.{Input, untabbed}
use Rattle.ig_text.specs.declared.class.Class.TheVariants.{Ranges}
use Rattle.ig_text.specs.declared.pattern.Pattern.{Pattern}
use Rattle.ig_text.specs.declared.pattern.Pattern.TheVariants.{Literal, OneOf}
use Rattle.ig_expr.specs.Evaluation.{value_of}
use Rattle.ig_expr.specs.Reading.{applied, same, spells}
use Rattle.ig_expr.specs.Blocks.{outer, inside}
use Rattle.ig_expr.specs.Matching.{matches_at, matches_before}
use Rattle.ig_expr.specs.Expression as tree
use Rattle.ig_expr.specs.Expression.{Expression}
use Rattle.ig_expr.specs.declared.operator.Op.{Op}
use Rattle.ig_expr.specs.declared.operator.Op.TheVariants.{Add, Sub, Mul, Div, Mod, Less, Equal, And}
use Rattle.ig_expr.specs.declared.operator.Function.TheVariants.{Begin, End, Size, Column, Line, Number}
use Rattle.ig_expr.specs.declared.value.Value.{Value}
use Rattle.ig_expr.specs.declared.value.Value.TheVariants as value

-- the value of an expression without variables, at the begin of no text
abbrev pub alone : Expression → Option Value
alone e = value_of (untabbed []) [] [] 0 e

abbrev pub on : Op → ℤ → ℤ → Option Value
on op a b = alone (tree.Binary op (tree.Integer a) (tree.Integer b))

abbrev pub some_integer : ℤ → Option Value
some_integer n = Some (value.Int n)

abbrev pub some_truth : Bool → Option Value
some_truth b = Some (value.Bool b)

abbrev pub greatest : ℤ
greatest = pos 9223372036854775807

abbrev pub least : ℤ
least = negsuc 9223372036854775807

abbrev pub minus_one : ℤ
minus_one = negsuc 0

-- integers at the edges of 64 bits, quotients toward zero, and remainders with the sign of the first
pub record WorkedIntegers : Type 0 where
  pub past_the_greatest : on Add greatest (pos 1) ≡ None
  pub past_the_least : on Sub least (pos 1) ≡ None
  pub back_to_the_greatest : on Sub minus_one least ≡ some_integer greatest
  pub product_past : on Mul least minus_one ≡ None
  pub product : on Mul (negsuc 6) (pos 9) ≡ some_integer (negsuc 62)
  pub quotient : on Div (negsuc 6) (pos 2) ≡ some_integer (negsuc 2)
  pub quotient_by_negative : on Div (pos 7) (negsuc 1) ≡ some_integer (negsuc 2)
  pub quotient_by_nought : on Div (pos 1) (pos 0) ≡ None
  pub quotient_of_the_least : on Div least minus_one ≡ None
  pub remainder : on Mod (negsuc 6) (pos 2) ≡ some_integer minus_one
  pub remainder_by_negative : on Mod (pos 7) (negsuc 1) ≡ some_integer (pos 1)
  pub remainder_by_nought : on Mod (pos 1) (pos 0) ≡ None
  pub remainder_of_the_least : on Mod least minus_one ≡ some_integer (pos 0)
  pub opposite_of_the_least : alone (tree.Negative (tree.Integer least)) ≡ None
  pub compared : on Less least greatest ≡ some_truth true

-- false and ((1 div 0) == 1)
abbrev pub partial : Expression
partial =
    tree.Binary And (tree.Truth false)
    (tree.Binary Equal (tree.Binary Div (tree.Integer (pos 1)) (tree.Integer (pos 0))) (tree.Integer (pos 1)))

-- an expression with a part that has no value has none
abbrev pub PartsWantValues : Type 0
PartsWantValues = alone partial ≡ None

-- twelve characters: 0 0 7, a space, é, a line feed, 7, é 7, a line feed, a space, 7
abbrev pub sample : Input
sample = untabbed (codes "007 " ++ 233 ∷ 10 ∷ 55 ∷ 233 ∷ 55 ∷ 10 ∷ 32 ∷ 55 ∷ [])

abbrev pub span : ℕ → ℕ → Value
span i j = value.Span (record { begin = i; end = j })

-- 2 ^ 63 in digits, which is past 64 bits with a sign
abbrev pub large : Input
large = untabbed (codes "9223372036854775808")

-- what functions read off the text
pub record WorkedReadings : Type 0 where
  pub number : applied sample Number (span 0 3) ≡ some_integer (pos 7)
  pub number_of_none : applied sample Number (span 3 3) ≡ None
  pub number_with_a_space : applied sample Number (span 0 4) ≡ None
  pub number_outside : applied sample Number (span 11 13) ≡ None
  pub number_falling : applied sample Number (span 3 0) ≡ None
  pub number_too_large : applied large Number (span 0 19) ≡ None
  pub number_fits : applied large Number (span 0 18) ≡ some_integer (pos 922337203685477580)
  pub begin_falling : applied sample Begin (span 3 0) ≡ some_integer (pos 3)
  pub end_falling : applied sample End (span 3 0) ≡ some_integer (pos 0)
  pub size_falling : applied sample Size (span 3 0) ≡ some_integer (negsuc 2)
  pub column_before : applied sample Column (value.Int minus_one) ≡ some_integer (pos 0)
  pub column_of_line_feed : applied sample Column (value.Int (pos 5)) ≡ some_integer (pos 6)
  pub column_behind : applied sample Column (value.Int (pos 6)) ≡ some_integer (pos 1)
  pub column_past : applied sample Column (value.Int (pos 13)) ≡ None
  pub line_of_line_feed : applied sample Line (value.Int (pos 5)) ≡ some_integer (pos 1)
  pub line_at_the_end : applied sample Line (value.Int (pos 12)) ≡ some_integer (pos 3)
  pub line_past : applied sample Line (value.Int (pos 13)) ≡ None
  pub line_before : applied sample Line (value.Int minus_one) ≡ None

-- spans with equal text, which lie in the text
pub record WorkedSpans : Type 0 where
  pub equal : same sample (span 2 3) (span 11 12) ≡ some_truth true
  pub empty : same sample (span 0 0) (span 12 12) ≡ some_truth true
  pub outside : same sample (span 13 13) (span 13 13) ≡ some_truth false
  pub no_span : same sample (value.Int (pos 2)) (span 2 3) ≡ None
  pub spelled : spells sample (233 ∷ 55 ∷ []) (span 7 9) ≡ some_truth true
  pub otherwise : spells sample (233 ∷ 55 ∷ []) (span 6 8) ≡ some_truth false

-- the pair of a block at position 6, which stands in column 1, as position 0 does
pub record WorkedBlocks : Type 0 where
  pub outer_here : outer sample 6 (value.Int (negsuc 4)) (value.Int (pos 6)) ≡ some_integer (negsuc 4)
  pub outer_there : outer sample 6 (value.Int (pos 0)) (value.Int (pos 0)) ≡ some_integer (pos 1)
  pub outer_less : outer sample 6 (value.Int (pos 3)) (value.Int (pos 1)) ≡ some_integer (pos 3)
  pub outer_past : outer sample 6 (value.Int (pos 0)) (value.Int (pos 13)) ≡ None
  pub inside_here : inside sample 6 (value.Int (negsuc 4)) (value.Int (pos 6)) ≡ some_truth true
  pub inside_left : inside sample 6 (value.Int (pos 1)) (value.Int (pos 6)) ≡ some_truth false
  pub inside_beside : inside sample 6 (value.Int (pos 0)) (value.Int (pos 0)) ≡ some_truth false
  pub inside_all : inside sample 6 (value.Int (negsuc 4)) (value.Int minus_one) ≡ some_truth true

abbrev pub digits : Pattern
digits = OneOf (Ranges false ((48, 57) ∷ []))

-- whether a match begins, and whether one ends, at a position
pub record WorkedMatches : Type 0 where
  pub word_begins : matches_at sample (Literal (233 ∷ 55 ∷ [])) 7 ≡ true
  pub word_ends : matches_before sample (Literal (233 ∷ 55 ∷ [])) 9 ≡ true
  pub word_too_long : matches_before sample (Literal (48 ∷ 48 ∷ [])) 1 ≡ false
  pub word_from_the_start : matches_before sample (Literal (48 ∷ 48 ∷ [])) 2 ≡ true
  pub digit_begins : matches_at sample digits 0 ≡ true
  pub digit_ends : matches_before sample digits 3 ≡ true
  pub none_at_the_end : matches_at sample digits 12 ≡ false
  pub none_before_the_start : matches_before sample digits 0 ≡ false

-- the worked values
pub record WorkedValues : Type 0 where
  pub integers : WorkedIntegers
  pub parts : PartsWantValues
  pub readings : WorkedReadings
  pub spans : WorkedSpans
  pub blocks : WorkedBlocks
  pub matches : WorkedMatches
