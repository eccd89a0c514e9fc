use Rattle.ig_walker.proofs.Deciding.{item_decided, item_missing}
use Rattle.ig_walker.proofs.measured.Measured.item_opens.Goals as goal

pub returns-in-Some : goal.returns-in-Some
returns-in-Some c =
    item_decided c.self.inside.forest.now c.args.self.now c.self.inside.heights.now c.self.view_is c.self.invariant c.depths_are_heights.ensures c.args.item c.in-Some.height c.args.depth
    c.in-Some.ensures

pub returns-in-None : goal.returns-in-None
returns-in-None c =
    item_missing c.self.inside.forest.now c.args.self.now c.self.inside.heights.now c.self.view_is c.self.invariant c.args.item c.args.depth c.in-None.ensures
