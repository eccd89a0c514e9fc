use Rattle.std.proofs.Common.{Some, ap, sym, ◌∙◌}
use Rattle.ig_item.specs.View.{step_of}
use Rattle.ig_run_moves.proofs.Pasts.{moves_named}
use Rattle.ig_run_moves.proofs.Steps.{label_there}
use Rattle.ig_run_moves.proofs.moves.behind_return.Goals as goal

pub unreachable-requires : goal.unreachable-requires
unreachable-requires c = let z = c.in_default.ensures ∙ c.requires.calls.2.is in cc

pub returns-clause-moves : goal.returns-clause-moves
returns-clause-moves c =
    λ label excluded at.
    let same =
    label_there c.args.context.now.core.now c.args.nonterminal c.args.item.alternative c.args.item.dot c.in-Call.nonterminal c.in-Call.args c.in-Call.label label
    c.in-Call.not excluded (sym c.in-Some.ensures ∙ ap (λ z. Some (step_of z)) c.in-Call.is) at in
    moves_named c.args.envs.now.keys c.behind_call.new.envs.keys c.args.item c.args.context.now.text.now c.in-Call.label label _ excluded c.args.end
    c.behind_call.result same.0 (c.as_slice-not.ensures ∙ same.1) c.behind_call.ensures.moves
