use Rattle.std.proofs.Common.{refl}
use Rattle.ig_load.proofs.input.drawn.Goals as goal

pub returns : goal.returns
returns c = refl
