use Rattle.std.proofs.Common.{◌≡◌, map, take}
use Rattle.ig_tests_turns.proofs.halves.jobs_of.Given as goal

abbrev pub invariant-loop-number : goal.invariant-loop-number
invariant-loop-number l = map (λ j. j.number) l.jobs ≡ take l.number-index l.numbers
