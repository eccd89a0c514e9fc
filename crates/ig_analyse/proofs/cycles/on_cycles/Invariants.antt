use Rattle.ig_analyse.specs.Groups.{Rests}
use Rattle.ig_analyse.proofs.cycles.on_cycles.Given as goal

abbrev pub invariant-loop-number : goal.invariant-loop-number
invariant-loop-number l = Rests l.rows l.walk l.number
