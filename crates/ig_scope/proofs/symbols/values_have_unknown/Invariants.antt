use Rattle.std.proofs.Common.{take}
use Rattle.std.specs.Prelude.{All}
use Rattle.ig_expr.specs.View.{expression_of}
use Rattle.ig_grammar.specs.Condition.{NamesUnknown}
use Rattle.ig_scope.proofs.symbols.values_have_unknown.Given as goal

abbrev pub invariant-loop-binding : goal.invariant-loop-binding
invariant-loop-binding l = All (λ e. NamesUnknown l.variables (expression_of e.1) → ⊥) (take l.binding-index l.bindings)
