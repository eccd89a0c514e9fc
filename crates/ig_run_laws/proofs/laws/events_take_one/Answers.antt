use Rattle.ig_run_laws.proofs.Events.{events_take_one}
use Rattle.ig_run_laws.proofs.laws.events_take_one.Goals as goal

pub returns : goal.returns
returns c = events_take_one
