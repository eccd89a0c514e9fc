use Rattle.ig_analyse.proofs.Telling.{AreFactsTo}
use Rattle.ig_analyse.proofs.facts.facts_by.Given as goal

abbrev pub invariant-loop-number : goal.invariant-loop-number
invariant-loop-number l = AreFactsTo l.core l.facts.items l.number
