use Rattle.ig_heights.specs.Rules.{IsPart}
use Rattle.ig_heights.proofs.heights.part_of.Given as goal

abbrev pub invariant-loop-k : goal.invariant-loop-k
invariant-loop-k l = IsPart l.heights l.from l.k l.list.items
