use Rattle.ig_run_laws.proofs.Budgets.{refused_budgets_are_exceeded}
use Rattle.ig_run_laws.proofs.laws.refused_budgets_are_exceeded.Goals as goal

pub returns : goal.returns
returns c = refused_budgets_are_exceeded c.reachable_is_closed.ensures
