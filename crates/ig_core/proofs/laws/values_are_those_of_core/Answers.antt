use Rattle.ig_core.proofs.Passes.{values_of_core}
use Rattle.ig_core.proofs.laws.values_are_those_of_core.Goals as goal

pub returns : goal.returns
returns c = values_of_core c.passes_keep.ensures
