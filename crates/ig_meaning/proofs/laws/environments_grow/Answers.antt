use Rattle.ig_meaning.proofs.Growth.{grow}
use Rattle.ig_meaning.proofs.laws.environments_grow.Goals as goal

pub returns : goal.returns
returns k = grow
