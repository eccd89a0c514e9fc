-- The syntax tree of an expression of the program: both have the same forms.
use Rattle.ig_expr.specs.Expression as tree
use Rattle.ig_expr.specs.Expression.{Expression}
use Rattle.ig_expr.specs.declared.expression.Expr.{Expr}
use Rattle.ig_expr.specs.declared.expression.Expr.TheVariants.{Int, Bool, Here, Var, Not, Neg, Binary, Of, Same, Spells, Outer, Inside, FreeBefore, FreeAfter}

-- the expression as a syntax tree
abbrev pub expression_of : Expr → Expression
expression_of (Int n) = tree.Integer n
expression_of (Bool b) = tree.Truth b
expression_of Here = tree.Here
expression_of (Var x) = tree.Variable x
expression_of (Not a) = tree.Not a
expression_of (Neg a) = tree.Negative a
expression_of (Binary op a b) = tree.Binary op a b
expression_of (Of f a) = tree.Of f a
expression_of (Same a b) = tree.Same a b
expression_of (Spells a word) = tree.Spells a word
expression_of (Outer a b) = tree.Outer a b
expression_of (Inside a b) = tree.Inside a b
expression_of (FreeBefore pattern) = tree.FreeBefore pattern
expression_of (FreeAfter pattern) = tree.FreeAfter pattern
