use Rattle.std.proofs.Common.{take}
use Rattle.ig_run_laws.specs.Renamed.{AreAbove}
use Rattle.ig_run_laws.proofs.renaming.has_lower.Given as goal

abbrev pub invariant-loop-end : goal.invariant-loop-end
invariant-loop-end l = AreAbove (take l.end-index l.ends)
