use Rattle.ig_core.proofs.Passes.{cores_named}
use Rattle.ig_core.proofs.laws.cores_are_named.Goals as goal

pub returns : goal.returns
returns c = cores_named c.passes_keep.ensures
