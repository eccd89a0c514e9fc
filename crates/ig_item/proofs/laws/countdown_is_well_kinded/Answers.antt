use Rattle.ig_item.proofs.Examples.{countdown_is_well_kinded}
use Rattle.ig_item.proofs.laws.countdown_is_well_kinded.Goals as goal

pub returns : goal.returns
returns c = countdown_is_well_kinded
