use Rattle.std.proofs.Common.{◌-◌}
use Rattle.ig_plain.specs.Run.{IsRun}
use Rattle.ig_plain.specs.Trail.{HasTrail}
use Rattle.ig_plain.proofs.saturation.take_all.Given as goal

abbrev pub invariant-loop-place : goal.invariant-loop-place
invariant-loop-place l = record {
  run : IsRun l.context.core.now l.context.text.now l.context.budget l.position l.place l.run.found l.run.waiting;
  trail : HasTrail l.context.core.now l.context.text.now l.position l.place l.run.found l.run.waiting l.run.trail;
}

abbrev pub decreases-loop-place : goal.decreases-loop-place
decreases-loop-place l = l.context.budget - l.place
