use Rattle.ig_command_jobs.proofs.Events.{goes_on, stays}
use Rattle.ig_command_jobs.proofs.parse_run.take_event.Goals as goal

pub returns-clause-ok : goal.returns-clause-ok
returns-clause-ok c =
    λ events at.
    goes_on c.args.run.now c.step.new.self events c.step.result c.stage_behind.result c.step.ensures.core c.step.ensures.text
    c.step.ensures.budget c.step.ensures.again c.step.ensures.steps c.step.ensures.going c.stage_behind.ensures at

pub returns-clause-err : goal.returns-clause-err
returns-clause-err c =
    λ events at.
    stays c.args.run.now c.step.new.self events c.step.result c.stage_behind.result c.step.ensures.budget c.step.ensures.refused
    c.stage_behind.ensures at
