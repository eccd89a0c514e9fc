use Rattle.ig_item.proofs.Environments.{environments}
use Rattle.ig_item.proofs.laws.environments_fit.Goals as goal

pub returns : goal.returns
returns c = environments c.value_is_of_kind.ensures
