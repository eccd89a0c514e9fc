use Rattle.ig_scope.proofs.Repeats.{HasNames}
use Rattle.ig_scope.proofs.heads.repeats.Given as goal

abbrev pub invariant-loop-param : goal.invariant-loop-param
invariant-loop-param l = HasNames l.names.keys l.params l.param-index
