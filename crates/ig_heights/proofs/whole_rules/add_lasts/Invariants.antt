use Rattle.ig_heights.specs.Table.{AreLasts}
use Rattle.ig_heights.proofs.whole_rules.add_lasts.Given as goal

abbrev pub invariant-loop-part : goal.invariant-loop-part
invariant-loop-part l = AreLasts l.bottom l.initial.rules.items l.rules.items l.last l.part
