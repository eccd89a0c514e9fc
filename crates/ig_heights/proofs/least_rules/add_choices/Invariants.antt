use Rattle.std.proofs.Common.{take}
use Rattle.ig_heights.specs.Table.{Adds, IsRuleBy, choice_rule}
use Rattle.ig_heights.proofs.least_rules.add_choices.Given as goal

abbrev pub invariant-loop-choice : goal.invariant-loop-choice
invariant-loop-choice l =
    Adds l.initial.rules.items l.rules.items (IsRuleBy (choice_rule l.nodes l.bottom l.v) (take l.choice-index l.choices))
