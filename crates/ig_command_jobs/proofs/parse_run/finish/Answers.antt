use Rattle.std.proofs.Common.{◌∙◌, ◌≤◌, ℕ, length, subst}
use Rattle.ig_command_jobs.proofs.Endings.{fits}
use Rattle.ig_command_jobs.proofs.parse_run.finish.Goals as goal

pub told-requires-clause-told : goal.told-requires-clause-told
told-requires-clause-told c =
    c.parse_recorded-told.ensures c.args.asked.budget
    (fits c.budgets_suffice.ensures c.args.asked.parser.now c.args.asked.input.now c.args.asked.budget c.in_ok-recorded.recorded
    (c.in_ok-recorded.ensures.core ∙ c.requires.core) (c.in_ok-recorded.ensures.text ∙ c.requires.text) c.in_ok-recorded.ensures.recorded
    (subst (λ (z : ℕ). length c.in_ok-recorded.recorded.tables.items ≤ z) c.requires.budget c.in_ok-recorded.ensures.within))
