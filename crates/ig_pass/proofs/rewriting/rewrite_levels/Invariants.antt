use Rattle.std.proofs.Common.{◌≡◌, map, take}
use Rattle.ig_pass.specs.Rewriting.{rewritten_level}
use Rattle.ig_pass.proofs.rewriting.rewrite_levels.Given as goal

abbrev pub invariant-loop-level : goal.invariant-loop-level
invariant-loop-level g l = l.all ≡ map (rewritten_level (g.O.OwnRule.rule l.own l.decl)) (take l.level-index l.level-items)
