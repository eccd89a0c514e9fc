use Rattle.ig_run_laws.proofs.Events.{all_follows_in_some_way}
use Rattle.ig_run_laws.proofs.laws.all_follows_in_some_way.Goals as goal

pub returns : goal.returns
returns c = all_follows_in_some_way
