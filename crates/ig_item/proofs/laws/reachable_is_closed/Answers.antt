use Rattle.ig_item.proofs.Reachability.{is_closed}
use Rattle.ig_item.proofs.laws.reachable_is_closed.Goals as goal

pub returns : goal.returns
returns c = is_closed
