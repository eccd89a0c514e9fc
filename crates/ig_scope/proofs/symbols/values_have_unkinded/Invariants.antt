use Rattle.std.proofs.Common.{take, ◌≡◌, None}
use Rattle.std.specs.Prelude.{All}
use Rattle.ig_expr.specs.View.{expression_of}
use Rattle.ig_grammar.specs.Visible.{kind_at}
use Rattle.ig_scope.proofs.symbols.values_have_unkinded.Given as goal

abbrev pub invariant-loop-binding : goal.invariant-loop-binding
invariant-loop-binding l = All (λ e. kind_at l.variables (expression_of e.1) ≡ None → ⊥) (take l.binding-index l.bindings)
