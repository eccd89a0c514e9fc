use Rattle.ig_core.proofs.Declared.{declarations_numbered}
use Rattle.ig_core.proofs.laws.declarations_keep_numbers.Goals as goal

pub returns : goal.returns
returns c = declarations_numbered
