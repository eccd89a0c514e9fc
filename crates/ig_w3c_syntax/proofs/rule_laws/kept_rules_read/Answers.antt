use Rattle.ig_w3c_syntax.proofs.Kept.{kept_rules_read}
use Rattle.ig_w3c_syntax.proofs.rule_laws.kept_rules_read.Goals as goal

pub returns : goal.returns
returns c = kept_rules_read
