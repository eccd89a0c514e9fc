use Rattle.ig_w3c_syntax.proofs.Kept.{declarations_read}
use Rattle.ig_w3c_syntax.proofs.rule_laws.declarations_read.Goals as goal

pub returns : goal.returns
returns c = declarations_read c.one_reading.ensures
