-- Which tokens stand for numbers, operators, functions, truth values, patterns and associativities; which expressions have an
-- operator.
use Rattle.std.specs.Prelude.{ℕ, suc, ℤ, pos, negsuc, List, ◌∷◌, Bool, true, false, if◌then◌else◌, codes}
use Rattle.ig_text.specs.declared.pattern.Pattern.{Pattern}
use Rattle.ig_text.specs.declared.pattern.Pattern.TheVariants as patterns
use Rattle.ig_expr.specs.Expression.{Expression, Integer, Truth, Variable, Negative, Binary, Of, Same, Spells, Outer, Inside, FreeBefore, FreeAfter}
use Rattle.ig_expr.specs.Expression as expression
use Rattle.ig_expr.specs.declared.operator.Op.{Op}
use Rattle.ig_expr.specs.declared.operator.Op.TheVariants as op
use Rattle.ig_expr.specs.declared.operator.Function.{Function}
use Rattle.ig_expr.specs.declared.operator.Function.TheVariants as functions
use Rattle.ig_grammar.specs.declared.declaration.Assoc.{Assoc}
use Rattle.ig_grammar.specs.declared.declaration.Assoc.TheVariants as assoc
use Rattle.ig_notation_syntax.specs.Token.{Token, Number, Minus}
use Rattle.ig_notation_syntax.specs.Token as sign
use Rattle.ig_show.specs.Pieces.{Piece, token, blank}

-- a number in decimal, with `-` where it is negative
abbrev pub integer_pieces : ℤ → List Piece → List Piece
integer_pieces (pos n) ps = token (Number n) ∷ ps
integer_pieces (negsuc n) ps = token Minus ∷ token (Number (suc n)) ∷ ps

abbrev pub operator_token : Op → Token
operator_token op.Add = sign.Plus
operator_token op.Sub = sign.Minus
operator_token op.Mul = sign.Star
operator_token op.Div = sign.Div
operator_token op.Mod = sign.Mod
operator_token op.Less = sign.Less
operator_token op.LessEqual = sign.AtMost
operator_token op.Greater = sign.Greater
operator_token op.GreaterEqual = sign.AtLeast
operator_token op.Equal = sign.EqualTo
operator_token op.NotEqual = sign.NotEqualTo
operator_token op.And = sign.And
operator_token op.Or = sign.Or

abbrev pub function_name : Function → List ℕ
function_name functions.Begin = codes "begin"
function_name functions.End = codes "end"
function_name functions.Size = codes "size"
function_name functions.Column = codes "column"
function_name functions.Line = codes "line"
function_name functions.Number = codes "number"

abbrev pub truth_token : Bool → Token
truth_token b = if b then sign.True else sign.False

abbrev pub pattern_token : Pattern → Token
pattern_token (patterns.Literal word) = sign.Literal word
pattern_token (patterns.OneOf class) = sign.OneOf class

-- an associativity and a space; nothing where there is none
abbrev pub associativity_pieces : Assoc → List Piece → List Piece
associativity_pieces assoc.Free ps = ps
associativity_pieces assoc.Left ps = token sign.Left ∷ blank ∷ ps
associativity_pieces assoc.Right ps = token sign.Right ∷ blank ∷ ps
associativity_pieces assoc.Nonassoc ps = token sign.Nonassoc ∷ blank ∷ ps

-- the expression is two terms with an operator between them, or a term behind `not` or `-`
abbrev pub has_operator : Expression → Bool
has_operator (Integer n) = false
has_operator (Truth b) = false
has_operator expression.Here = false
has_operator (Variable x) = false
has_operator (expression.Not a) = true
has_operator (Negative a) = true
has_operator (Binary o a b) = true
has_operator (Of f a) = false
has_operator (Same a b) = false
has_operator (Spells a word) = false
has_operator (Outer a b) = false
has_operator (Inside a b) = false
has_operator (FreeBefore p) = false
has_operator (FreeAfter p) = false
