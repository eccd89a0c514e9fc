use Rattle.ig_core.proofs.Passes.{core_tags}
use Rattle.ig_core.proofs.laws.tags_rise_in_cores.Goals as goal

pub returns : goal.returns
returns c = core_tags c.passes_keep.ensures
