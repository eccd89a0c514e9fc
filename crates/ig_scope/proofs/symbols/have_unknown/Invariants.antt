use Rattle.std.proofs.Common.{take}
use Rattle.std.specs.Prelude.{All}
use Rattle.ig_expr.specs.View.{expression_of}
use Rattle.ig_grammar.specs.Condition.{NamesUnknown}
use Rattle.ig_scope.proofs.symbols.have_unknown.Given as goal

abbrev pub invariant-loop-e : goal.invariant-loop-e
invariant-loop-e l = All (λ e. NamesUnknown l.variables (expression_of e) → ⊥) (take l.e-index l.expressions)
