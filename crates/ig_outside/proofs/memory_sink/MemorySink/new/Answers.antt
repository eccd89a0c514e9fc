use Rattle.std.proofs.Common.{arith}
use Rattle.ig_outside.proofs.memory_sink.MemorySink.new.Goals as goal

pub invariant_of-result : goal.invariant_of-result
invariant_of-result c = record { reserved = omega (arith, c.in_ok-taken.ensures.capacity); within = omega (arith, c.in_ok-taken.ensures.len) }
