use Rattle.ig_expr.specs.View.{expression_of}
use Rattle.ig_run_tables.specs.Compiled.{form_of}
use Rattle.ig_run_moves.proofs.Pasts.{form_of_one, moves_bind, fails_bind}
use Rattle.ig_run_moves.proofs.moves.behind_bind.Goals as goal

pub only-form-requires : goal.only-form-requires
only-form-requires c = (form_of c.args.known.now.names.now (expression_of c.args.expression.now), c.requires.compiled)

pub value-requires : goal.value-requires
value-requires c =
    form_of_one c.args.known.now.names.now (expression_of c.args.expression.now) c.args.known.now.forms.now c.only-form.result.now c.only-form.ensures
    c.requires.compiled

pub returns-in_default-clause-moves : goal.returns-in_default-clause-moves
returns-in_default-clause-moves c =
    fails_bind c.args.envs.now.keys c.args.envs.now.keys c.args.item c.args.context.now.text.now c.args.known.now.names.now
    (expression_of c.args.expression.now) _ c.value.result c.values_at-values.ensures c.value.ensures c.in_default.is

pub returns-clause-moves : goal.returns-clause-moves
returns-clause-moves c =
    moves_bind c.args.envs.now.keys c.past.new.envs.keys c.args.item c.in_ok-behind.behind c.args.context.now.text.now c.args.known.now.names.now
    (expression_of c.args.expression.now) _ c.value.result c.in-Some.value c.in_ok-behind.ensures.extends c.in_ok-behind.ensures.past
    c.values_at-values.ensures c.value.ensures c.in-Some.is
