use Rattle.ig_core.proofs.RegularCores.{cores_regular}
use Rattle.ig_core.proofs.laws.cores_are_regular.Goals as goal

pub returns : goal.returns
returns c = cores_regular c.passes_keep.ensures
