use Rattle.std.proofs.Common.{rules}
use Rattle.ig_pass.proofs.rewriting.applied.Goals as goal

pub returns : goal.returns
returns g c = search rules
