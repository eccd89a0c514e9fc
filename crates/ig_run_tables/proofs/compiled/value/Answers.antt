use Rattle.ig_expr.specs.View.{expression_of}
use Rattle.ig_run_tables.proofs.Forms.{value_alone, value_compared}
use Rattle.ig_run_tables.proofs.compiled.value.Goals as goal

pub returns-in-Alone : goal.returns-in-Alone
returns-in-Alone c =
    value_alone c.args.text.now c.args.names.now c.args.values.now c.args.here (expression_of c.args.expression.now) c.args.form.now c.in-Alone.atom
    c.value_at.result c.requires c.in-Alone.is c.value_at.ensures

pub returns-in-Some : goal.returns-in-Some
returns-in-Some c =
    value_compared c.args.text.now c.args.names.now c.args.values.now c.args.here (expression_of c.args.expression.now) c.args.form.now c.in-Binary.op
    c.in-Binary.a c.in-Binary.b c.value_at-a.result c.value_at-in-Binary.result _ c.in-Some.holds c.requires c.in-Binary.is c.value_at-a.ensures
    c.value_at-in-Binary.ensures c.compared.ensures c.in-Some.is
