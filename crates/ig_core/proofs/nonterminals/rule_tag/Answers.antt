use Rattle.std.proofs.Common.{refl}
use Rattle.ig_core.proofs.nonterminals.rule_tag.Goals as goal

pub returns : goal.returns
returns c = refl
