use Rattle.std.proofs.Common.{take}
use Rattle.ig_grammar.specs.Tables.{HasPlaces}
use Rattle.ig_grammar.proofs.declarations.Declarations.new.Given as goal

abbrev pub invariant-loop-place : goal.invariant-loop-place
invariant-loop-place l = HasPlaces l.places (take l.place l.decls)
