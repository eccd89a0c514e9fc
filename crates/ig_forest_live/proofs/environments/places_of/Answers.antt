use Rattle.std.proofs.Common.{sym, map}
use Rattle.ig_forest_live.proofs.CodeEnvironments.{place_next, is_placed}
use Rattle.ig_forest_live.proofs.environments.places_of.Goals as goal

pub place_of-requires-clause-order : goal.place_of-requires-clause-order
place_of-requires-clause-order c = c.requires.lists.order

pub unreachable-requires-in_default-place_of : goal.unreachable-requires-in_default-place_of
unreachable-requires-in_default-place_of c =
    c.in_default-place_of.ensures
    (is_placed c.args.items.now.environments (map (λ l. l.now) c.args.lists.now) c.loop-k.k c.in-Some.list.now c.requires.lists (sym c.in-Some.ensures))

pub loop-k-preserved : goal.loop-k-preserved
loop-k-preserved c =
    place_next c.args.items.now.environments (map (λ l. l.now) c.args.lists.now) c.loop-k.places.items c.push.new.self.items c.loop-k.k
    c.in-Some-place_of.place c.in-Some.list.now c.in_ok-push.ensures.items c.loop-k.invariant (sym c.in-Some.ensures) c.in-Some-place_of.ensures
