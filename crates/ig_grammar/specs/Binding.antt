-- What a binding is: a name, and the expression whose value it gets.
use Rattle.std.specs.Prelude.{ℕ, List}
use Rattle.ig_expr.specs.Expression.{Expression}
use Rattle.ig_expr.specs.View.{expression_of}
use Rattle.ig_expr.specs.declared.expression.Expr.{Expr}

pub record Binding : Type 0 where
  pub name : List ℕ
  pub value : Expression

-- a pair of the program, as a binding
abbrev pub binding_of : List ℕ × Expr → Binding
binding_of pair = record { name = pair.0; value = expression_of pair.1 }
