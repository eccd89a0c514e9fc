use Rattle.std.proofs.Common.{◌≡◌, drop}
use Rattle.ig_pass.specs.Rooted.{has_root}
use Rattle.ig_pass.proofs.rooting.has_root.Given as goal

abbrev pub invariant-loop-before : goal.invariant-loop-before
invariant-loop-before l = has_root (drop l.before l.checked.shapes) ≡ has_root l.checked.shapes
