use Rattle.ig_forest_reader.specs.Checks.{NodesFitBelow}
use Rattle.ig_forest_reader.proofs.checks.nodes_fit.Given as goal

abbrev pub invariant-loop-k : goal.invariant-loop-k
invariant-loop-k l = NodesFitBelow l.forest l.k
