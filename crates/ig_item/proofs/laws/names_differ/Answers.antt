use Rattle.ig_item.proofs.Fitting.{differ_at}
use Rattle.ig_item.proofs.laws.names_differ.Goals as goal

pub returns : goal.returns
returns c = differ_at
