use Rattle.std.proofs.Common.{sym}
use Rattle.ig_engine.proofs.Ended.{end_exit, start_exit}
use Rattle.ig_engine.proofs.running.run.Goals as goal

pub returns-in_err-started-clause-fault : goal.returns-in_err-started-clause-fault
returns-in_err-started-clause-fault g c =
    start_exit c.args.core.now c.args.text.now c.args.budget c.from_residual.result c.in_err-started.field-0.0 c.from_residual.ensures.1
    c.in_err-started.ensures.fault

pub returns-in_err-step_to_end-clause-fault : goal.returns-in_err-step_to_end-clause-fault
returns-in_err-step_to_end-clause-fault g c =
    end_exit c.in_ok-started.started.core c.args.core.now c.in_ok-started.started.text c.args.text.now c.in_ok-started.started.budget c.args.budget
    c.from_residual-in_err-step_to_end.result c.in_err-step_to_end.field-0.0 c.from_residual-in_err-step_to_end.ensures.1 (sym c.in_ok-started.ensures.core)
    (sym c.in_ok-started.ensures.text) (sym c.in_ok-started.ensures.budget) c.in_err-step_to_end.ensures.fault
