use Rattle.std.proofs.Common.{vec_items, arith}
use Rattle.ig_walker.proofs.Bumping.{bumped_code}
use Rattle.ig_walker.proofs.parts.add_child.Goals as goal

pub returns : goal.returns
returns c =
    bumped_code (vec_items c.args.parts.now) (vec_items c.pop.new.self) (vec_items c.push.new.self) c.in-Some.part c.in_ok-children.children
    c.in-Some.ensures.items c.in_ok-push.ensures.items (let h = c.in_ok-children.ensures.number in omega (arith, h))
