use Rattle.ig_text.proofs.Booleans.{refuted}
use Rattle.ig_run_moves.proofs.Pasts.{moves_call, moves_excluded}
use Rattle.ig_run_moves.proofs.moves.behind_call.Goals as goal

pub returns-then-not-matches_none-clause-moves : goal.returns-then-not-matches_none-clause-moves
returns-then-not-matches_none-clause-moves c =
    moves_excluded c.args.envs.now.keys c.args.envs.now.keys c.args.item c.args.context.now.text.now c.args.qualifiers.now.label.now
    c.args.qualifiers.now.not.now c.args.end (refuted c.matches_none.result c.matches_none.ensures c.if-not-matches_none.true)

pub returns-clause-moves : goal.returns-clause-moves
returns-clause-moves c =
    moves_call c.args.envs.now.keys c.past.new.envs.keys c.args.item c.span_bound-bound.result c.args.end c.in_ok-behind.behind
    c.in_ok-behind.ensures.extends c.in_ok-behind.ensures.past c.args.context.now.text.now c.args.qualifiers.now.label.now
    c.args.qualifiers.now.not.now c.span_bound-bound.ensures (c.matches_none.ensures.0 c.if-not-matches_none.false)
