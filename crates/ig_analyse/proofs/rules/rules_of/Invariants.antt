use Rattle.std.proofs.Common.{◌≡◌, ◌++◌, drop}
use Rattle.ig_analyse.specs.Rules.{rules_from}
use Rattle.ig_analyse.proofs.rules.rules_of.Given as goal

abbrev pub invariant-loop-number : goal.invariant-loop-number
invariant-loop-number l = l.rules.items ++ rules_from l.bare l.number (drop l.number l.nonterminal-items) ≡ rules_from l.bare 0 l.core
