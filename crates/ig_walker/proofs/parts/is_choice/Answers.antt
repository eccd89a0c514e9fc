use Rattle.std.proofs.Common.{refl}
use Rattle.ig_walker.proofs.parts.is_choice.Goals as goal

pub returns : goal.returns
returns c = refl
