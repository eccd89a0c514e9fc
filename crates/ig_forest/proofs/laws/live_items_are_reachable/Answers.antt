use Rattle.ig_forest.proofs.Liveness.{live_is_reachable}
use Rattle.ig_forest.proofs.laws.live_items_are_reachable.Goals as goal

pub returns : goal.returns
returns c = live_is_reachable
