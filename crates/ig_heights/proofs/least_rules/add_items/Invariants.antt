use Rattle.ig_heights.specs.Table.{Adds, IsRuleOf}
use Rattle.ig_heights.proofs.least_rules.add_items.Given as goal

abbrev pub invariant-loop-k : goal.invariant-loop-k
invariant-loop-k l = Adds l.initial.rules.items l.rules.items (IsRuleOf l.forest 0 l.k)
