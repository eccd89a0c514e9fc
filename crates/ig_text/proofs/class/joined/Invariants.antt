use Rattle.std.proofs.Common.{◌≡◌, ◌++◌, drop}
use Rattle.ig_text.proofs.Joining.{joined}
use Rattle.ig_text.proofs.class.joined.Given as goal

-- what is joined so far, and what the open range and the other pairs make, is what all pairs make
abbrev pub invariant-loop-pair : goal.invariant-loop-pair
invariant-loop-pair l = l.ranges.items ++ joined l.open (drop l.pair-index l.rest) ≡ joined l.initial.open l.rest
