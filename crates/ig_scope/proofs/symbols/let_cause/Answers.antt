use Rattle.ig_text.proofs.Booleans.{refuted}
use Rattle.ig_expr.specs.View.{expression_of}
use Rattle.ig_scope.proofs.SymbolCauses.{let_unknown, let_twice, let_unkinded, let_free}
use Rattle.ig_scope.proofs.symbols.let_cause.Goals as goal
use Rattle.ig_scope.proofs.Members.{is_absent, is_present}

pub returns-then-names_unknown : goal.returns-then-names_unknown
returns-then-names_unknown c =
    λ decls within. let_unknown decls within c.args.variables.now c.args.name.now (expression_of c.args.value.now) (c.names_unknown.ensures.0 c.if-names_unknown.true)

pub returns-then-sees : goal.returns-then-sees
returns-then-sees c =
    λ decls within. let_twice decls within c.args.variables.now c.args.name.now (expression_of c.args.value.now) (refuted _ c.names_unknown.ensures c.if-names_unknown.false) (c.sees.ensures.0 c.if-sees.true)

pub returns-then-is_none : goal.returns-then-is_none
returns-then-is_none c =
    λ decls within. let_unkinded decls within c.args.variables.now c.args.name.now (expression_of c.args.value.now) (refuted _ c.names_unknown.ensures c.if-names_unknown.false) (refuted _ c.sees.ensures c.if-sees.false) (is_absent c.kind_of.result _ c.is_none.result c.kind_of.ensures c.is_none.ensures c.if-is_none.true)

pub returns : goal.returns
returns c =
    λ decls within. let_free decls within c.args.variables.now c.args.name.now (expression_of c.args.value.now) (refuted _ c.names_unknown.ensures c.if-names_unknown.false) (refuted _ c.sees.ensures c.if-sees.false) (is_present c.kind_of.result _ c.is_none.result c.kind_of.ensures c.is_none.ensures c.if-is_none.false)
