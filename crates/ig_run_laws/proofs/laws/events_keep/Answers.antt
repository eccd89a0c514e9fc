use Rattle.ig_run_laws.proofs.Whole.{events_keep}
use Rattle.ig_run_laws.proofs.laws.events_keep.Goals as goal

pub returns : goal.returns
returns c = events_keep c.reachable_is_closed.ensures
