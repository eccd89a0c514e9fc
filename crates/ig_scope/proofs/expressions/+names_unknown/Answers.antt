use Rattle.std.proofs.Common.{ap, sym, ◌∙◌, ◌++◌}
use Rattle.ig_expr.specs.View.{expression_of}
use Rattle.ig_grammar.specs.Condition.{variables}
use Rattle.ig_scope.proofs.Unknown.{unknown_none, unknown_same, unknown_variable, unknown_then, unknown_else}
use Rattle.ig_scope.proofs.expressions.+names_unknown.Goals as goal

pub returns-else-names_unknown : goal.returns-else-names_unknown
returns-else-names_unknown t c =
    unknown_else c.args.variables.now (expression_of c.as_expr-in-Binary.result.now) (expression_of c.as_expr-else-names_unknown.result.now) (expression_of c.args.e.now) (ap (λ z. variables (expression_of z)) c.in-Binary.is ∙ (λ i. variables (sym c.as_expr-in-Binary.ensures i) ++ variables (sym c.as_expr-else-names_unknown.ensures i)))
    c.names_unknown-in-Binary.result c.names_unknown-else-names_unknown.result c.names_unknown-in-Binary.ensures c.if-names_unknown.false c.names_unknown-else-names_unknown.ensures

pub returns-then-names_unknown-2 : goal.returns-then-names_unknown-2
returns-then-names_unknown-2 t c =
    unknown_then c.args.variables.now (expression_of c.as_expr-in-Same.result.now) c.in-Same.b (expression_of c.args.e.now)
    (ap (λ z. variables (expression_of z)) c.in-Same.is ∙ ap (λ z. variables z ++ variables c.in-Same.b) (sym c.as_expr-in-Same.ensures))
    c.names_unknown-in-Same.result c.names_unknown-in-Same.ensures c.if-names_unknown-2.true

pub returns-else-names_unknown-2 : goal.returns-else-names_unknown-2
returns-else-names_unknown-2 t c =
    unknown_else c.args.variables.now (expression_of c.as_expr-in-Same.result.now) (expression_of c.as_expr-else-names_unknown-2.result.now) (expression_of c.args.e.now) (ap (λ z. variables (expression_of z)) c.in-Same.is ∙ (λ i. variables (sym c.as_expr-in-Same.ensures i) ++ variables (sym c.as_expr-else-names_unknown-2.ensures i)))
    c.names_unknown-in-Same.result c.names_unknown-else-names_unknown-2.result c.names_unknown-in-Same.ensures c.if-names_unknown-2.false c.names_unknown-else-names_unknown-2.ensures

pub returns-then-names_unknown-3 : goal.returns-then-names_unknown-3
returns-then-names_unknown-3 t c =
    unknown_then c.args.variables.now (expression_of c.as_expr-in-Outer.result.now) c.in-Outer.b (expression_of c.args.e.now)
    (ap (λ z. variables (expression_of z)) c.in-Outer.is ∙ ap (λ z. variables z ++ variables c.in-Outer.b) (sym c.as_expr-in-Outer.ensures))
    c.names_unknown-in-Outer.result c.names_unknown-in-Outer.ensures c.if-names_unknown-3.true

pub returns-else-names_unknown-3 : goal.returns-else-names_unknown-3
returns-else-names_unknown-3 t c =
    unknown_else c.args.variables.now (expression_of c.as_expr-in-Outer.result.now) (expression_of c.as_expr-else-names_unknown-3.result.now) (expression_of c.args.e.now) (ap (λ z. variables (expression_of z)) c.in-Outer.is ∙ (λ i. variables (sym c.as_expr-in-Outer.ensures i) ++ variables (sym c.as_expr-else-names_unknown-3.ensures i)))
    c.names_unknown-in-Outer.result c.names_unknown-else-names_unknown-3.result c.names_unknown-in-Outer.ensures c.if-names_unknown-3.false c.names_unknown-else-names_unknown-3.ensures

pub returns-then-names_unknown-4 : goal.returns-then-names_unknown-4
returns-then-names_unknown-4 t c =
    unknown_then c.args.variables.now (expression_of c.as_expr-in-Inside.result.now) c.in-Inside.b (expression_of c.args.e.now)
    (ap (λ z. variables (expression_of z)) c.in-Inside.is ∙ ap (λ z. variables z ++ variables c.in-Inside.b) (sym c.as_expr-in-Inside.ensures))
    c.names_unknown-in-Inside.result c.names_unknown-in-Inside.ensures c.if-names_unknown-4.true

pub returns-else-names_unknown-4 : goal.returns-else-names_unknown-4
returns-else-names_unknown-4 t c =
    unknown_else c.args.variables.now (expression_of c.as_expr-in-Inside.result.now) (expression_of c.as_expr-else-names_unknown-4.result.now) (expression_of c.args.e.now) (ap (λ z. variables (expression_of z)) c.in-Inside.is ∙ (λ i. variables (sym c.as_expr-in-Inside.ensures i) ++ variables (sym c.as_expr-else-names_unknown-4.ensures i)))
    c.names_unknown-in-Inside.result c.names_unknown-else-names_unknown-4.result c.names_unknown-in-Inside.ensures c.if-names_unknown-4.false c.names_unknown-else-names_unknown-4.ensures

pub returns-in-Int : goal.returns-in-Int
returns-in-Int t c = unknown_none c.args.variables.now (expression_of c.args.e.now) (ap (λ z. variables (expression_of z)) c.in-Int.is)

pub returns-in-Bool : goal.returns-in-Bool
returns-in-Bool t c = unknown_none c.args.variables.now (expression_of c.args.e.now) (ap (λ z. variables (expression_of z)) c.in-Bool.is)

pub returns-in-Here : goal.returns-in-Here
returns-in-Here t c = unknown_none c.args.variables.now (expression_of c.args.e.now) (ap (λ z. variables (expression_of z)) c.in-Here.is)

pub returns-in-FreeBefore : goal.returns-in-FreeBefore
returns-in-FreeBefore t c = unknown_none c.args.variables.now (expression_of c.args.e.now) (ap (λ z. variables (expression_of z)) c.in-FreeBefore.is)

pub returns-in-FreeAfter : goal.returns-in-FreeAfter
returns-in-FreeAfter t c = unknown_none c.args.variables.now (expression_of c.args.e.now) (ap (λ z. variables (expression_of z)) c.in-FreeAfter.is)

pub returns-in-Var : goal.returns-in-Var
returns-in-Var t c =
    unknown_variable c.args.variables.now c.in-Var.name (expression_of c.args.e.now) (ap (λ z. variables (expression_of z)) c.in-Var.is)
    c.sees.result c.sees.ensures

pub returns-in-Not : goal.returns-in-Not
returns-in-Not t c =
    unknown_same c.args.variables.now (expression_of c.as_expr.result.now) (expression_of c.args.e.now)
    (ap (λ z. variables (expression_of z)) c.in-Not.is ∙ ap variables (sym c.as_expr.ensures)) c.names_unknown.result c.names_unknown.ensures

pub returns-in-Neg : goal.returns-in-Neg
returns-in-Neg t c =
    unknown_same c.args.variables.now (expression_of c.as_expr-in-Neg.result.now) (expression_of c.args.e.now)
    (ap (λ z. variables (expression_of z)) c.in-Neg.is ∙ ap variables (sym c.as_expr-in-Neg.ensures)) c.names_unknown-in-Neg.result c.names_unknown-in-Neg.ensures

pub returns-in-Of : goal.returns-in-Of
returns-in-Of t c =
    unknown_same c.args.variables.now (expression_of c.as_expr-in-Of.result.now) (expression_of c.args.e.now)
    (ap (λ z. variables (expression_of z)) c.in-Of.is ∙ ap variables (sym c.as_expr-in-Of.ensures)) c.names_unknown-in-Of.result c.names_unknown-in-Of.ensures

pub returns-in-Spells : goal.returns-in-Spells
returns-in-Spells t c =
    unknown_same c.args.variables.now (expression_of c.as_expr-in-Spells.result.now) (expression_of c.args.e.now)
    (ap (λ z. variables (expression_of z)) c.in-Spells.is ∙ ap variables (sym c.as_expr-in-Spells.ensures)) c.names_unknown-in-Spells.result c.names_unknown-in-Spells.ensures

pub returns-then-names_unknown : goal.returns-then-names_unknown
returns-then-names_unknown t c =
    unknown_then c.args.variables.now (expression_of c.as_expr-in-Binary.result.now) c.in-Binary.b (expression_of c.args.e.now)
    (ap (λ z. variables (expression_of z)) c.in-Binary.is ∙ ap (λ z. variables z ++ variables c.in-Binary.b) (sym c.as_expr-in-Binary.ensures))
    c.names_unknown-in-Binary.result c.names_unknown-in-Binary.ensures c.if-names_unknown.true
