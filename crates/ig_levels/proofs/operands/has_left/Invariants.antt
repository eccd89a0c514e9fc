use Rattle.std.proofs.Common.{◌≡◌, map, true, length}
use Rattle.ig_grammar.specs.View.{symbol_of}
use Rattle.ig_levels.specs.Levels.{has_left}
use Rattle.ig_levels.specs.Roles.{place_of}
use Rattle.ig_levels.proofs.operands.has_left.Given as goal

abbrev pub invariant-loop-rest : goal.invariant-loop-rest
invariant-loop-rest l =
    has_left (place_of l.bounds l.own) true (map symbol_of l.symbols) ≡ has_left (place_of l.bounds l.own) l.first (map symbol_of l.rest)

abbrev pub decreases-loop-rest : goal.decreases-loop-rest
decreases-loop-rest l = length l.rest
