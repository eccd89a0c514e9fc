use Rattle.ig_verify.specs.Flaws.{ItemsFitBelow}
use Rattle.ig_verify.proofs.items.item_flaw.Given as goal

abbrev pub invariant-loop-number : goal.invariant-loop-number
invariant-loop-number l = ItemsFitBelow l.core l.text l.draft l.number
