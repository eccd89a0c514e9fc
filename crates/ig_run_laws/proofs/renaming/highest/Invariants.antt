use Rattle.std.proofs.Common.{take, Contains, ◌≤◌}
use Rattle.ig_item.specs.declared.ways.FurtherEnd.{FurtherEnd}
use Rattle.ig_run_laws.proofs.renaming.highest.Given as goal

abbrev pub invariant-loop-end : goal.invariant-loop-end
invariant-loop-end l = (e : FurtherEnd) → Contains (take l.end-index l.ends) e → e.first ≤ l.highest
