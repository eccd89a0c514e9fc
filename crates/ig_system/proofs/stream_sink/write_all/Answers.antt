use Rattle.std.proofs.Common.{arith, length-take, length-drop, ℕ}
use Rattle.ig_system.proofs.WrittenParts.{writes_more}
use Rattle.ig_system.proofs.stream_sink.write_all.Goals as goal

pub loop-at-preserved : goal.loop-at-preserved
loop-at-preserved g c = record {
  within = omega (arith, c.in-Ok.ensures.bound, length-take {A = ℕ}, length-drop {A = ℕ});
  written = writes_more _ _ _ _ _ _ c.loop-at.invariant.written c.in-Ok.ensures.bytes;
}
