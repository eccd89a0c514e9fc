use Rattle.std.proofs.Common.{subst, sym}
use Rattle.ig_text.proofs.Options.{passed_on}
use Rattle.ig_command_endings.specs.Change.{change, telling}
use Rattle.ig_command_jobs.specs.Jobs.{stored_job}
use Rattle.ig_tool.specs.Decisions.{RunsJob}
use Rattle.ig_tool.proofs.top_call.run.Goals as goal
use Rattle.ig_tool.proofs.Deciding.{runs_at_input, runs_parse}

pub returns-in_err-input-clause-answer : goal.returns-in_err-input-clause-answer
returns-in_err-input-clause-answer g c = λ told agree.
    let shelf = change (telling told (g.F.Shelf.state c.args.shelf.now)) (telling told (g.F.Shelf.state c.load_input.new.shelf)) in
    subst (RunsJob c.args.parser.now c.args.budget (stored_job c.args.job) shelf c.args.name.now)
    (sym (passed_on c.from_residual.result c.in_err-input.field-0.0 c.from_residual.ensures.1))
    (runs_at_input c.args.parser.now c.args.budget (stored_job c.args.job) shelf c.args.name.now c.tab_width.result c.in_err-input.field-0.0
    (c.in_err-input.ensures.answer told agree))

pub returns-clause-answer : goal.returns-clause-answer
returns-clause-answer g c = λ told agree.
    let shelf = change (telling told (g.F.Shelf.state c.args.shelf.now)) (telling told (g.F.Shelf.state c.load_input.new.shelf)) in
    runs_parse c.args.parser.now c.args.budget (stored_job c.args.job) shelf c.args.name.now c.tab_width.result c.tab_width.ensures.width c.in_ok-input.input c.parse.result
    (c.in_ok-input.ensures.answer told agree) c.parse.ensures
