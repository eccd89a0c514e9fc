use Rattle.std.proofs.Common.{rules}
use Rattle.ig_run_tables.proofs.budget.within_budget.Goals as goal

pub returns-then-items-budget-clause-over : goal.returns-then-items-budget-clause-over
returns-then-items-budget-clause-over c = search rules

pub returns-clause-within : goal.returns-clause-within
returns-clause-within c = search rules
