use Rattle.ig_parse.specs.Parses.{HasItems}
use Rattle.ig_command_jobs.specs.Jobs.{stored_job}
use Rattle.ig_command_jobs.proofs.Parsed.{parses_over_budget}
use Rattle.ig_command_jobs.proofs.parsing.parse.Goals as goal

pub returns-in-Ok : goal.returns-in-Ok
returns-in-Ok c =
    let items : HasItems c.args.parser.now c.args.input.now c.args.budget c.in-Ok.recorded = c.in-Ok.ensures in
    c.parse_recorded.ensures c.args.budget items.suffices

pub returns-in-Err-Budget : goal.returns-in-Err-Budget
returns-in-Err-Budget c =
    parses_over_budget c.args.parser.now c.args.input.now c.args.budget (stored_job c.args.job) c.over_budget.result
    (rw c.in-Err-Budget.field-0-is at c.in-Err-Budget.ensures) c.over_budget.ensures
