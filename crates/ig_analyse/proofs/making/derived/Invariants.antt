use Rattle.std.proofs.Common.{length, take}
use Rattle.ig_analyse.specs.Rules.{IsWork, used_by}
use Rattle.ig_analyse.proofs.making.derived.Given as goal

abbrev pub invariant-loop-turn : goal.invariant-loop-turn
invariant-loop-turn l =
    IsWork l.rules l.count (length l.rules) l.work (used_by l.users.lists (take l.turn l.work.found.items))
