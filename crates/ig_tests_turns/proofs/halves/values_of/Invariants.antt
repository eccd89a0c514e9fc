use Rattle.std.proofs.Common.{take}
use Rattle.std.specs.List.{AllZip}
use Rattle.ig_tests_turns.specs.Halves.{IsHalf}
use Rattle.ig_tests_turns.proofs.halves.values_of.Given as goal

abbrev pub invariant-loop-half : goal.invariant-loop-half
invariant-loop-half l = AllZip IsHalf (take l.half-index l.halves) l.values.items
