use Rattle.std.proofs.Common.{◌≡◌, ◌++◌, drop}
use Rattle.std.specs.List.{flat_map}
use Rattle.ig_analyse.specs.Rules.{rule_of, rules_of}
use Rattle.ig_analyse.proofs.rules.push_rules.Given as goal

abbrev pub invariant-loop-alternative : goal.invariant-loop-alternative
invariant-loop-alternative l =
    l.rules.items ++ flat_map (rule_of l.bare l.number) (drop l.alternative-index l.alternative-items) ≡
    l.fn.rules.items ++ rules_of l.bare l.number l.nonterminal
