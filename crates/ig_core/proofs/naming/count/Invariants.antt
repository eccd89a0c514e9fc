use Rattle.std.proofs.Common.{◌≡◌, take, length, ◌≤◌}
use Rattle.ig_core.specs.CoreOf.{unrooted}
use Rattle.ig_core.proofs.naming.count.Given as goal

abbrev pub invariant-loop-index : goal.invariant-loop-index
invariant-loop-index l = (l.number ≡ length (unrooted (take l.index l.decls) (take l.index l.checked.shapes))) × (l.number ≤ l.index)
