use Rattle.ig_item.proofs.VisibleDots.{names_at_each}
use Rattle.ig_item.proofs.laws.names_are_at_dots.Goals as goal

pub returns : goal.returns
returns c = names_at_each
