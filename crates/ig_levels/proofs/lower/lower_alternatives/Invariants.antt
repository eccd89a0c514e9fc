use Rattle.std.proofs.Common.{◌≡◌, ◌++◌, map, drop}
use Rattle.ig_grammar.specs.Numbering.{by_level}
use Rattle.ig_levels.specs.Levels.{lowered_alternative}
use Rattle.ig_levels.specs.Tables.{levelled_by}
use Rattle.ig_levels.proofs.lower.lower_alternatives.Given as goal

abbrev pub invariant-loop-index : goal.invariant-loop-index
invariant-loop-index l =
    l.all ++ map (lowered_alternative (levelled_by l.table) l.decl) (by_level (drop l.index l.levels)) ≡
    map (lowered_alternative (levelled_by l.table) l.decl) (by_level l.levels)
