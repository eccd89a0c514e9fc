use Rattle.ig_text.proofs.Booleans.{refuted}
use Rattle.ig_expr.specs.View.{expression_of}
use Rattle.ig_scope.proofs.SymbolCauses.{guard_unknown, guard_mismatched, guard_free}
use Rattle.ig_scope.proofs.symbols.guard_cause.Goals as goal

pub returns-then-names_unknown : goal.returns-then-names_unknown
returns-then-names_unknown c =
    λ decls within. guard_unknown decls within c.args.variables.now (expression_of c.args.condition.now) (c.names_unknown.ensures.0 c.if-names_unknown.true)

pub returns-else-has_kind : goal.returns-else-has_kind
returns-else-has_kind c =
    λ decls within. guard_mismatched decls within c.args.variables.now (expression_of c.args.condition.now) (refuted _ c.names_unknown.ensures c.if-names_unknown.false) (refuted _ c.has_kind.ensures c.if-has_kind.false)

pub returns-then-has_kind : goal.returns-then-has_kind
returns-then-has_kind c =
    λ decls within. guard_free decls within c.args.variables.now (expression_of c.args.condition.now) (refuted _ c.names_unknown.ensures c.if-names_unknown.false) (c.has_kind.ensures.0 c.if-has_kind.true)
