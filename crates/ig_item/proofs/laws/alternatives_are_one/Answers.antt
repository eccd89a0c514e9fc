use Rattle.ig_item.proofs.Dots.{same_alternative}
use Rattle.ig_item.proofs.laws.alternatives_are_one.Goals as goal

pub returns : goal.returns
returns c = same_alternative
