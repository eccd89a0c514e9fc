use Rattle.ig_forest.proofs.Liveness.{live_is_least}
use Rattle.ig_forest.proofs.laws.live_items_are_least.Goals as goal

pub returns : goal.returns
returns c = live_is_least
