use Rattle.ig_item.proofs.Dots.{names_step}
use Rattle.ig_item.proofs.laws.names_grow.Goals as goal

pub returns : goal.returns
returns c = names_step
