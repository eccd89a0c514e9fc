use Rattle.std.proofs.Common.{rules}
use Rattle.ig_heights.proofs.least_rules.entry_rule.Goals as goal

pub returns-in-Take-default-Node : goal.returns-in-Take-default-Node
returns-in-Take-default-Node c = search rules
