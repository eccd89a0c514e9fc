use Rattle.ig_query.specs.CodeAmbiguity.{AreMarks}
use Rattle.ig_query.proofs.ambiguity.marks_of.Given as goal

abbrev pub invariant-loop-number : goal.invariant-loop-number
invariant-loop-number l = AreMarks l.forest l.number l.marks.items
