use Rattle.std.proofs.Common.{rules}
use Rattle.ig_system.proofs.ending.exit_code.Goals as goal

pub returns : goal.returns
returns c = search rules
