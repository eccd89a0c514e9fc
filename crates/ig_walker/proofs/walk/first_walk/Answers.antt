use Rattle.std.proofs.Common.{vec_items}
use Rattle.ig_walker.proofs.Starting.{first_opens_code, first_code, root_closed}
use Rattle.ig_walker.proofs.walk.first_walk.Goals as goal

pub returns-then-not-node_opens : goal.returns-then-not-node_opens
returns-then-not-node_opens c =
    root_closed c.args.forest.now c.args.depth c.root-root.result c.node_opens.result c.root-root.ensures.number c.if-not-node_opens.true c.node_opens.ensures

pub complete-requires : goal.complete-requires
complete-requires c =
    first_opens_code c.args.forest.now c.args.depth c.root-root.result c.node_opens.result (vec_items c.push.new.self) (vec_items c.new-pending.result)
    c.root-root.ensures.number c.if-not-node_opens.false c.node_opens.ensures c.new-pending.ensures.items c.in_ok-push.ensures.items

pub returns : goal.returns
returns c =
    first_code c.args.forest.now c.args.depth c.root-root.result (vec_items c.push.new.self) (vec_items c.new-pending.result) (vec_items c.new-visits.result) _
    c.root-root.ensures.number c.new-pending.ensures.items c.in_ok-push.ensures.items c.new-visits.ensures.items c.in_ok-complete.ensures
