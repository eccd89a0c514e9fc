use Rattle.std.proofs.Common.{◌≡◌, map, take}
use Rattle.ig_levels.specs.Levels.{lowered_declaration}
use Rattle.ig_levels.specs.Tables.{levelled_by}
use Rattle.ig_levels.proofs.lower.lower_declarations.Given as goal

abbrev pub invariant-loop-decl : goal.invariant-loop-decl
invariant-loop-decl l = l.all ≡ map (lowered_declaration (levelled_by l.table)) (take l.decl-index l.decls)
