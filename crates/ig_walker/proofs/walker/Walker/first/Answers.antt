use Rattle.std.proofs.Common.{vec_items}
use Rattle.ig_walker.proofs.Closing.{first_keeps, first_shows}
use Rattle.ig_walker.proofs.walker.Walker.first.Goals as goal

pub invariant_of-result : goal.invariant_of-result
invariant_of-result c =
    first_keeps c.args.forest.now c.args.depth (vec_items c.new.result) c.new.ensures.items

pub returns : goal.returns
returns c = first_shows c.args.forest.now c.args.depth (vec_items c.new.result) c.new.ensures.items
