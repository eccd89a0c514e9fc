use Rattle.std.proofs.Common.{refl}
use Rattle.ig_levels.proofs.symbols.Role.nested.Goals as goal

pub returns : goal.returns
returns c = refl
