use Rattle.ig_item.proofs.Growing.{environments_grow}
use Rattle.ig_item.proofs.laws.environments_grow.Goals as goal

pub returns : goal.returns
returns c = environments_grow
