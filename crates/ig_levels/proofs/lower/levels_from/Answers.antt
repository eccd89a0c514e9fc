use Rattle.std.proofs.Common.{refl}
use Rattle.ig_levels.proofs.lower.levels_from.Goals as goal

pub returns : goal.returns
returns c = refl
