use Rattle.std.proofs.Common.{◌≡◌, length}
use Rattle.ig_tests_arena.proofs.lists.add_many.Given as goal

abbrev pub invariant-loop-n : goal.invariant-loop-n
invariant-loop-n l = length l.chains.lists ≡ length l.initial.chains.lists
