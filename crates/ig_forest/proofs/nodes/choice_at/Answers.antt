use Rattle.std.proofs.Common.{refl}
use Rattle.ig_forest.proofs.nodes.choice_at.Goals as goal

pub returns : goal.returns
returns c = refl
