use Rattle.ig_item.proofs.VisibleDots.{Sees}
use Rattle.ig_item.proofs.visible.VisibleNames.of.Given as goal

abbrev pub invariant-loop-step : goal.invariant-loop-step
invariant-loop-step l = Sees l.initial.names.items l.names.items l.step-items l.step-index l.seen.items
