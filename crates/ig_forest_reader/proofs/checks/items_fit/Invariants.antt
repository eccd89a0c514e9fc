use Rattle.ig_forest_reader.specs.Checks.{ItemsFitBelow}
use Rattle.ig_forest_reader.proofs.checks.items_fit.Given as goal

abbrev pub invariant-loop-k : goal.invariant-loop-k
invariant-loop-k l = ItemsFitBelow l.forest l.k
