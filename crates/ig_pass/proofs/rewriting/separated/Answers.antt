use Rattle.std.proofs.Common.{refl}
use Rattle.ig_pass.proofs.rewriting.separated.Goals as goal

pub returns : goal.returns
returns c = refl
