use Rattle.ig_expr.specs.View.{expression_of}
use Rattle.ig_run_tables.specs.Compiled.{form_of}
use Rattle.ig_run_moves.proofs.Pasts.{form_of_one, moves_test, fails_test}
use Rattle.ig_run_moves.proofs.moves.behind_test.Goals as goal

pub only-form-requires : goal.only-form-requires
only-form-requires c = (form_of c.args.known.now.names.now (expression_of c.args.condition.now), c.requires.compiled)

pub is_true-requires : goal.is_true-requires
is_true-requires c =
    form_of_one c.args.known.now.names.now (expression_of c.args.condition.now) c.args.known.now.forms.now c.only-form.result.now c.only-form.ensures
    c.requires.compiled

pub returns-then-not-is_true-clause-moves : goal.returns-then-not-is_true-clause-moves
returns-then-not-is_true-clause-moves c =
    fails_test c.args.envs.now.keys c.args.envs.now.keys c.args.item c.args.context.now.text.now c.args.known.now.names.now
    (expression_of c.args.condition.now) _ c.is_true.result c.values_at-values.ensures c.is_true.ensures c.if-not-is_true.true

pub returns-clause-moves : goal.returns-clause-moves
returns-clause-moves c =
    moves_test c.args.envs.now.keys c.past.new.envs.keys c.args.item c.in_ok-behind.behind c.args.context.now.text.now c.args.known.now.names.now
    (expression_of c.args.condition.now) _ c.is_true.result c.in_ok-behind.ensures.extends c.in_ok-behind.ensures.past
    c.values_at-values.ensures c.is_true.ensures c.if-not-is_true.false
