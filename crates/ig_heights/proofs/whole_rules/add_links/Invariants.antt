use Rattle.std.proofs.Common.{take}
use Rattle.ig_heights.specs.Table.{AreLinks}
use Rattle.ig_heights.proofs.whole_rules.add_links.Given as goal

abbrev pub invariant-loop-rule : goal.invariant-loop-rule
invariant-loop-rule l = AreLinks l.least.bottom (take l.rule-index l.least.rules.items) l.links.items l.last.items
