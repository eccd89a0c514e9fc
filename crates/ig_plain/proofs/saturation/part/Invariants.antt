use Rattle.ig_plain.proofs.Arriving.{IsPartedTo}
use Rattle.ig_plain.proofs.saturation.part.Given as goal

abbrev pub invariant-loop-place : goal.invariant-loop-place
invariant-loop-place l = record {
  parted : IsPartedTo l.position l.initial.later.items l.later.items l.initial.prevs.items l.prevs.items l.initial.here.items l.here.items l.initial.ways l.ways
      l.kept l.place;
}
