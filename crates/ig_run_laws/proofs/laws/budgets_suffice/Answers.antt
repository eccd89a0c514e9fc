use Rattle.ig_run_laws.proofs.Budgets.{budgets_suffice}
use Rattle.ig_run_laws.proofs.laws.budgets_suffice.Goals as goal

pub returns : goal.returns
returns c = budgets_suffice
