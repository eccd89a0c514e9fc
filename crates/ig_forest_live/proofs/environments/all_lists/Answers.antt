use Rattle.std.proofs.Common.{refl, sym}
use Rattle.ig_forest_live.proofs.CodeEnvironments.{map_next, now_of}
use Rattle.ig_forest_live.proofs.environments.all_lists.Goals as goal

pub loop-k-preserved : goal.loop-k-preserved
loop-k-preserved c =
    map_next now_of c.loop-k.lists.items c.push.new.self.items c.in-Some.list c.args.items.now.environments c.loop-k.k
    c.in-Some.list.now c.in_ok-push.ensures.items c.loop-k.invariant (sym c.in-Some.ensures) refl
