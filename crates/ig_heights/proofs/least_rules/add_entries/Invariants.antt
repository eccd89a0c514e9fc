use Rattle.std.proofs.Common.{take}
use Rattle.ig_heights.specs.Table.{Adds, IsRuleBy, entry_rule}
use Rattle.ig_heights.proofs.least_rules.add_entries.Given as goal

abbrev pub invariant-loop-entry : goal.invariant-loop-entry
invariant-loop-entry l =
    Adds l.initial.rules.items l.rules.items (IsRuleBy (entry_rule l.nodes l.bottom l.k) (take l.entry-index l.entries))
