use Rattle.ig_run_laws.proofs.Furthers.{ends_keep}
use Rattle.ig_run_laws.proofs.laws.ends_keep.Goals as goal

pub returns : goal.returns
returns c = ends_keep
