use Rattle.ig_command_jobs.proofs.Endings.{told_over}
use Rattle.ig_command_jobs.proofs.ended.Ended.over.Goals as goal

pub told-requires-clause-told : goal.told-requires-clause-told
told-requires-clause-told c =
    told_over c.args.asked.parser.now c.args.asked.input.now c.args.asked.budget c.over_budget-stop.result c.requires.over
    c.over_budget-stop.ensures
