use Rattle.ig_heights.specs.Table.{Adds, IsRuleOf}
use Rattle.ig_heights.proofs.least_rules.add_nodes.Given as goal

abbrev pub invariant-loop-v : goal.invariant-loop-v
invariant-loop-v l = Adds l.initial.rules.items l.rules.items (IsRuleOf l.forest l.v 0)
