use Rattle.ig_query.specs.CodeAmbiguity.{AreNumbers}
use Rattle.ig_query.proofs.ambiguity.numbers_of.Given as goal

abbrev pub invariant-loop-number : goal.invariant-loop-number
invariant-loop-number l = AreNumbers l.forest l.marks l.number l.numbers.items
