use Rattle.ig_item.proofs.Reachability.{reachable_ones_follow}
use Rattle.ig_item.proofs.laws.reachable_follows.Goals as goal

pub returns : goal.returns
returns c = reachable_ones_follow
