use Rattle.std.specs.Prelude.{length}
use Rattle.ig_plain.proofs.Returns.{Walks, remaining}
use Rattle.ig_plain.proofs.run.return_to_all.Given as goal

abbrev pub invariant-loop-at : goal.invariant-loop-at
invariant-loop-at l = Walks l.context.core.now l.context.text.now l.callers l.head l.done l.end l.context.budget l.initial.found l.found l.initial.trail l.trail l.at

abbrev pub decreases-loop-at : goal.decreases-loop-at
decreases-loop-at l = remaining (length l.callers) l.at
