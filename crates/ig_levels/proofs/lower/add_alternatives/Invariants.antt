use Rattle.std.proofs.Common.{◌≡◌, ◌++◌, map, take}
use Rattle.ig_levels.specs.Levels.{lowered_alternative}
use Rattle.ig_levels.specs.Numbered.{numbered}
use Rattle.ig_levels.specs.Tables.{levelled_by}
use Rattle.ig_levels.proofs.lower.add_alternatives.Given as goal

abbrev pub invariant-loop-alternative : goal.invariant-loop-alternative
invariant-loop-alternative l =
    l.all ≡ l.initial.all ++ map (lowered_alternative (levelled_by l.table) l.decl) (numbered l.bounds.level l.level.assoc (take l.alternative-index l.alternative-items))
