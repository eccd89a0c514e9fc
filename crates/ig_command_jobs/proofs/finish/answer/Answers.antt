use Rattle.ig_command_jobs.proofs.finish.answer.Goals as goal

pub returns : goal.returns
returns c = c.in_ok-told.ensures
