use Rattle.std.proofs.Common.{take}
use Rattle.ig_run_tables.specs.InstanceSet.{AreInBuckets}
use Rattle.ig_run_tables.proofs.buckets.Buckets.of.Given as goal

abbrev pub invariant-loop-key : goal.invariant-loop-key
invariant-loop-key l = AreInBuckets (take l.key-index l.keys) l.buckets.heads.items l.buckets.earlier.items l.buckets.mask
