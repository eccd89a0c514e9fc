use Rattle.std.proofs.Common.{◌≡◌, take}
use Rattle.ig_pass.proofs.rooting.copy_of_shapes.Given as goal

abbrev pub invariant-loop-before : goal.invariant-loop-before
invariant-loop-before l = l.shapes ≡ take l.before l.checked.shapes
