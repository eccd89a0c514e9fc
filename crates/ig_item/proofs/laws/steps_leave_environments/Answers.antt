use Rattle.ig_item.proofs.Annotations.{environments}
use Rattle.ig_item.proofs.laws.steps_leave_environments.Goals as goal

pub returns : goal.returns
returns c = environments
