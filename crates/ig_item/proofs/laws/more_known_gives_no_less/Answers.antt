use Rattle.ig_item.proofs.Reachability.{no_less}
use Rattle.ig_item.proofs.laws.more_known_gives_no_less.Goals as goal

pub returns : goal.returns
returns c = no_less
