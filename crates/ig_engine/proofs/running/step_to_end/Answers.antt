use Rattle.std.proofs.Common.{sym, ◌∙◌}
use Rattle.ig_engine.proofs.Ended.{fits, less_is_left, none_waits, step_exit}
use Rattle.ig_engine.proofs.running.step_to_end.Goals as goal

pub returns-in_err-step-clause-fault : goal.returns-in_err-step-clause-fault
returns-in_err-step-clause-fault g c =
    step_exit c.loop.run.core c.args.run.now.core c.loop.run.text c.args.run.now.text c.loop.run.budget
    c.args.run.now.budget c.loop.run.state c.from_residual.result c.in_err-step.field-0.0
    c.from_residual.ensures.1 (sym c.loop.invariant.core) (sym c.loop.invariant.text) (sym c.loop.invariant.budget)
    (c.in_err-step.ensures.steps c.loop.invariant.going)

pub loop-preserved : goal.loop-preserved
loop-preserved g c =
    record {
      core = c.step.ensures.core ∙ c.loop.invariant.core;
      text = c.step.ensures.text ∙ c.loop.invariant.text;
      budget = c.step.ensures.budget ∙ c.loop.invariant.budget;
      going = c.in_ok-step.ensures.going;
    }

pub loop-smaller : goal.loop-smaller
loop-smaller g c =
    less_is_left c.loop.run.core c.loop.run.text c.loop.run.budget c.step.new.self.budget c.loop.run.state c.step.new.self.state
    c.in_ok-step.field-0 c.in-More.is (c.in_ok-step.ensures.steps c.loop.invariant.going) c.step.ensures.budget

pub returns-in-Done-clause-core : goal.returns-in-Done-clause-core
returns-in-Done-clause-core g c = c.step.ensures.core ∙ c.loop.invariant.core

pub returns-in-Done-clause-text : goal.returns-in-Done-clause-text
returns-in-Done-clause-text g c = c.step.ensures.text ∙ c.loop.invariant.text

pub returns-in-Done-clause-budget : goal.returns-in-Done-clause-budget
returns-in-Done-clause-budget g c = c.step.ensures.budget ∙ c.loop.invariant.budget

pub returns-in-Done-clause-ended : goal.returns-in-Done-clause-ended
returns-in-Done-clause-ended g c =
    none_waits c.loop.run.core c.loop.run.text c.loop.run.budget c.loop.run.state c.step.new.self.state c.in_ok-step.field-0 c.in-Done.is
    (c.in_ok-step.ensures.steps c.loop.invariant.going)

pub returns-in-Done-clause-exact : goal.returns-in-Done-clause-exact
returns-in-Done-clause-exact g c =
    fits c.ended_runs_are_complete.ensures c.budgets_suffice.ensures c.args.run.now.core c.args.run.now.text c.args.run.now.budget
    c.step.new.self (c.step.ensures.core ∙ c.loop.invariant.core) (c.step.ensures.text ∙ c.loop.invariant.text)
    (c.step.ensures.budget ∙ c.loop.invariant.budget) c.step.ensures.between c.in_ok-step.ensures.going
    (none_waits c.loop.run.core c.loop.run.text c.loop.run.budget c.loop.run.state c.step.new.self.state c.in_ok-step.field-0 c.in-Done.is
    (c.in_ok-step.ensures.steps c.loop.invariant.going))
