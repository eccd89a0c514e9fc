use Rattle.std.proofs.Common.{sym, ◌∙◌, subst, arith}
use Rattle.ig_command_jobs.specs.Underway.{IsAt}
use Rattle.ig_command_jobs.specs.declared.stage.Stage.{Stage}
use Rattle.ig_command_jobs.specs.declared.stage.Stage.TheVariants as stage
use Rattle.ig_command_jobs.proofs.Events.{few_events, still_going}
use Rattle.ig_command_jobs.proofs.parse_run.Parsing.step.Goals as goal

pub invariant_of-self : goal.invariant_of-self
invariant_of-self c =
    let going = still_going c.self.inside.stage (sym c.is_last.ensures ∙ c.if-is_last.false) in
    let at = subst (λ (s : Stage). IsAt s c.self.inside.events c.self.inside.run) going c.self.invariant.is_at in
    record {
      as_it_is = c.self.invariant.as_it_is;
      core = c.take_event.ensures.core ∙ c.self.invariant.core;
      text = c.take_event.ensures.text ∙ c.self.invariant.text;
      budget_is = c.take_event.ensures.budget ∙ c.self.invariant.budget_is;
      small = c.self.invariant.small;
      is_at = subst (λ (s : Stage). IsAt s c.self.inside.events c.take_event.new.run) (sym going) (c.in_err-stage.ensures.err c.self.inside.events at);
    }

pub overflow_add-self : goal.overflow_add-self
overflow_add-self c =
    let going = still_going c.self.inside.stage (sym c.is_last.ensures ∙ c.if-is_last.false) in
    let at = subst (λ (s : Stage). IsAt s c.self.inside.events c.self.inside.run) going c.self.invariant.is_at in
    let few = few_events c.self.inside.asked.budget c.self.inside.events c.self.inside.run c.self.invariant.budget_is at in
    let small = c.self.invariant.small in
    record { fits = omega (arith, few, small) }
