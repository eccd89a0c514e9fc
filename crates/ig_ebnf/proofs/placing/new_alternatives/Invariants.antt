use Rattle.std.proofs.Common.{◌≡◌, ◌++◌, drop}
use Rattle.ig_ebnf_variables.specs.Lists.{new_alts}
use Rattle.ig_ebnf.proofs.placing.new_alternatives.Given as goal

abbrev pub invariant-loop-alternative : goal.invariant-loop-alternative
invariant-loop-alternative l =
    l.all ++ new_alts l.of l.variables l.next (drop l.alternative-index l.alternative-items) ≡
    new_alts l.of l.variables l.k l.alternative-items
