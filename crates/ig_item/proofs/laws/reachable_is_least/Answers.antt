use Rattle.ig_item.proofs.Reachability.{is_least}
use Rattle.ig_item.proofs.laws.reachable_is_least.Goals as goal

pub returns : goal.returns
returns c = is_least
