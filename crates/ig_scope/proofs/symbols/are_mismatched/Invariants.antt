use Rattle.std.proofs.Common.{◌≡◌, ◌<◌, ℕ, map, Some}
use Rattle.std.specs.Prelude.{slice_get}
use Rattle.ig_expr.specs.Expression.{Expression}
use Rattle.ig_expr.specs.View.{expression_of}
use Rattle.ig_grammar.specs.Visible.{kind_at}
use Rattle.ig_grammar.specs.declared.declaration.Param.{Param}
use Rattle.ig_scope.proofs.symbols.are_mismatched.Given as goal

abbrev pub invariant-loop-place : goal.invariant-loop-place
invariant-loop-place l =
    (k : ℕ) (e : Expression) (p : Param) → k < l.place → slice_get (map expression_of l.arguments) k ≡ Some e → slice_get l.params k ≡ Some p →
    kind_at l.variables e ≡ Some p.kind
