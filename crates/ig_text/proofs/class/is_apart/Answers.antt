use Rattle.std.proofs.Common.{rules}
use Rattle.ig_text.proofs.class.is_apart.Goals as goal

pub returns : goal.returns
returns c = search rules
