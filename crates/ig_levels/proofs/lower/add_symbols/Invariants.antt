use Rattle.std.proofs.Common.{◌≡◌, ◌++◌, map, true, length}
use Rattle.ig_grammar.specs.View.{symbol_of}
use Rattle.ig_levels.specs.Levels.{lowered}
use Rattle.ig_levels.specs.Roles.{place_of}
use Rattle.ig_levels.specs.Tables.{levelled_by}
use Rattle.ig_levels.proofs.lower.add_symbols.Given as goal

abbrev pub invariant-loop-rest : goal.invariant-loop-rest
invariant-loop-rest l =
    l.all ++ lowered (levelled_by l.table) (place_of l.bounds l.decl.name) l.first (map symbol_of l.rest) ≡
    l.initial.all ++ lowered (levelled_by l.table) (place_of l.bounds l.decl.name) true (map symbol_of l.symbols)

abbrev pub decreases-loop-rest : goal.decreases-loop-rest
decreases-loop-rest l = length l.rest
