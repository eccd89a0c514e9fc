use Rattle.std.proofs.Common.{length}
use Rattle.ig_plain.specs.Run.{IsRun}
use Rattle.ig_plain.specs.Trail.{HasTrail}
use Rattle.ig_plain.proofs.saturation.run_to_end.Given as goal

abbrev pub invariant-loop-before : goal.invariant-loop-before
invariant-loop-before l = record {
  run : IsRun l.context.core.now l.context.text.now l.context.budget l.before (length l.run.found.here.items) l.run.found l.run.waiting;
  trail : HasTrail l.context.core.now l.context.text.now l.before (length l.run.found.here.items) l.run.found l.run.waiting l.run.trail;
}
