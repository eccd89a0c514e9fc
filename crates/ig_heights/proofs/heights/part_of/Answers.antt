use Rattle.std.proofs.Common.{refl}
use Rattle.ig_heights.proofs.Answering.{part_none, part_next}
use Rattle.ig_heights.proofs.heights.part_of.Goals as goal

pub loop-k-init : goal.loop-k-init
loop-k-init c = part_none c.args.heights.now c.args.from c.in_ok-list.list.items c.in_ok-list.ensures.items

pub loop-k-preserved : goal.loop-k-preserved
loop-k-preserved c =
    part_next c.args.heights.now c.args.from c.loop-k.k _ c.loop-k.list.items c.push.new.self.items _ refl c.loop-k.invariant c.in_ok-push.ensures.items refl
