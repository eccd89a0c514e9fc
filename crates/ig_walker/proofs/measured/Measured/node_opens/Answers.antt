use Rattle.ig_walker.proofs.Deciding.{node_decided, node_missing}
use Rattle.ig_walker.proofs.measured.Measured.node_opens.Goals as goal

pub returns-in-Some : goal.returns-in-Some
returns-in-Some c =
    node_decided c.self.inside.forest.now c.args.self.now c.self.inside.heights.now c.self.view_is c.self.invariant c.depths_are_heights.ensures c.args.node c.in-Some.height c.args.depth
    c.in-Some.ensures

pub returns-in-None : goal.returns-in-None
returns-in-None c =
    node_missing c.self.inside.forest.now c.args.self.now c.self.inside.heights.now c.self.view_is c.self.invariant c.args.node c.args.depth c.in-None.ensures
