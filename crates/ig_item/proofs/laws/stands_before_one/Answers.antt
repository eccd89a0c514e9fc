use Rattle.ig_item.proofs.Dots.{stands_once}
use Rattle.ig_item.proofs.laws.stands_before_one.Goals as goal

pub returns : goal.returns
returns c = stands_once
