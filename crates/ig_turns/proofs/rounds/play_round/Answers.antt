use Rattle.std.proofs.Common.{◌∙◌, Err, length, sym, ap}
use Rattle.std.proofs.lemmas.List.{length-map}
use Rattle.ig_turns.proofs.Totals.{no_stray, round_fell}
use Rattle.ig_turns.proofs.rounds.play_round.Goals as goal

pub unreachable-requires : goal.unreachable-requires
unreachable-requires g c =
    no_stray (length c.args.turns.now) c.args.round.now c.requires.named c.in-Err-NoJob.field-0-0
    ((c.play.ensures.no_job c.in-Err-NoJob.field-0-0).0 (c.in-Err-NoJob.is ∙ ap Err c.in-Err-NoJob.field-0-is))

pub returns-in-Ok-clause-falls : goal.returns-in-Ok-clause-falls
returns-in-Ok-clause-falls g c =
    (round_fell g.J.Job.taken g.J.Job.left c.args.round.now c.args.turns.now c.play.new.self
    (sym (length-map c.play.new.self g.J.Job.outcome) ∙ (ap length c.play.ensures.outcomes ∙ length-map c.args.turns.now g.J.Job.outcome))
    c.requires.each c.in-Ok.ensures.played).less
