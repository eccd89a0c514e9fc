use Rattle.std.proofs.lemmas.Result.{IfOk-weaker}
use Rattle.ig_run_moves.proofs.Pasts.{moves_no_match, moves_terminal}
use Rattle.ig_run_moves.proofs.moves.behind_terminal.Goals as goal

pub returns-in_default-clause-moves : goal.returns-in_default-clause-moves
returns-in_default-clause-moves c =
    moves_no_match c.args.envs.now.keys c.args.envs.now.keys c.args.item c.args.context.now.text.now c.args.what.now
    c.args.qualifiers.now.label.now c.args.qualifiers.now.not.now c.in_default.ensures

pub returns-clause-moves : goal.returns-clause-moves
returns-clause-moves c =
    IfOk-weaker c.behind_call.result _ _
    (λ r. moves_terminal c.args.envs.now.keys c.behind_call.new.envs.keys c.args.item c.args.context.now.text.now c.args.what.now
    c.args.qualifiers.now.label.now c.args.qualifiers.now.not.now c.in-Some.end r c.in-Some.ensures) c.behind_call.ensures.moves
