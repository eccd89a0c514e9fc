use Rattle.std.proofs.Common.{◌≡◌, map, length}
use Rattle.ig_grammar.specs.View.{symbol_of}
use Rattle.ig_levels.specs.Levels.{only_tests}
use Rattle.ig_levels.proofs.operands.only_tests.Given as goal

abbrev pub invariant-loop-rest : goal.invariant-loop-rest
invariant-loop-rest l = only_tests (map symbol_of l.symbols) ≡ only_tests (map symbol_of l.rest)

abbrev pub decreases-loop-rest : goal.decreases-loop-rest
decreases-loop-rest l = length l.rest
