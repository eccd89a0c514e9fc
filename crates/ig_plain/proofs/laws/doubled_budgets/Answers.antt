use Rattle.ig_plain.specs.Examples.{doubled}
use Rattle.ig_plain.proofs.Examples.{doubled_is_well_kinded, doubled_is_plain}
use Rattle.ig_plain.proofs.Doubled.{many_reachable}
use Rattle.ig_plain.proofs.laws.doubled_budgets.Goals as goal

pub returns-clause-suffice : goal.returns-clause-suffice
returns-clause-suffice c text budget enough =
    c.plain_budgets_suffice.ensures doubled text budget doubled_is_well_kinded doubled_is_plain enough

pub returns-clause-needed : goal.returns-clause-needed
returns-clause-needed c = many_reachable c.reachable_is_closed.ensures
