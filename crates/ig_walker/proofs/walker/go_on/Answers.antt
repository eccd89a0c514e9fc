use Rattle.std.proofs.Common.{refl}
use Rattle.ig_walker.proofs.walker.go_on.Goals as goal

pub returns : goal.returns
returns c = refl
