use Rattle.ig_core.proofs.WellKinded.{cores_well_kinded}
use Rattle.ig_core.proofs.laws.cores_are_well_kinded.Goals as goal

pub returns : goal.returns
returns c = cores_well_kinded c.steps_fit.ensures c.names_differ.ensures
