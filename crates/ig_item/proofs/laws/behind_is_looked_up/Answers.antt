use Rattle.ig_item.proofs.LookedUp.{behind_tells}
use Rattle.ig_item.proofs.laws.behind_is_looked_up.Goals as goal

pub returns : goal.returns
returns c = behind_tells
