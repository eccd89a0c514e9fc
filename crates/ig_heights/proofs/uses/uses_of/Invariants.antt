use Rattle.ig_heights.specs.Uses.{AreUses}
use Rattle.ig_heights.proofs.uses.uses_of.Given as goal

abbrev pub invariant-loop-rule : goal.invariant-loop-rule
invariant-loop-rule l = AreUses l.table.rules.items l.table.parts l.rule-index l.uses
