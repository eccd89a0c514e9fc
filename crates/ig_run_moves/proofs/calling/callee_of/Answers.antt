use Rattle.std.proofs.Common.{map}
use Rattle.ig_expr.specs.View.{expression_of}
use Rattle.ig_run_moves.proofs.Callees.{callee_none, callee_some}
use Rattle.ig_run_moves.proofs.calling.callee_of.Goals as goal

pub returns-in_default-clause-callee : goal.returns-in_default-clause-callee
returns-in_default-clause-callee c =
    callee_none c.args.envs.now.keys c.args.envs.now.keys c.args.item c.args.context.now.text.now c.args.known.now.names.now c.args.nonterminal
    (map expression_of c.args.args.now) c.values_at-values.result.now c.values_at-values.ensures (c.in_ok-arguments.ensures.none c.in_default.is)

pub returns-clause-callee : goal.returns-clause-callee
returns-clause-callee c =
    callee_some c.args.envs.now.keys c.enter_arguments.new.envs.keys c.args.item c.args.context.now.text.now c.args.known.now.names.now c.args.nonterminal
    (map expression_of c.args.args.now) c.values_at-values.result.now c.values_at-values.ensures c.in-Some.arguments c.in_ok-env.env
    (c.in_ok-arguments.ensures.some c.in-Some.arguments c.in-Some.is) c.in_ok-env.ensures.enters
