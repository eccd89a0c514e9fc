use Rattle.std.proofs.Common.{◌≡◌, length}
use Rattle.ig_text.specs.Ranges.{KnowsFirst}
use Rattle.ig_text.proofs.ranges.ascii_of.Given as goal

-- a truth value for each character so far
abbrev pub invariant-loop-c : goal.invariant-loop-c
invariant-loop-c l = (length l.ascii.items ≡ l.c) × KnowsFirst l.pairs l.ascii.items
