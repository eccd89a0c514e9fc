use Rattle.std.proofs.Common.{refl}
use Rattle.ig_forest.specs.CodeNodes as nodes
use Rattle.ig_forest.proofs.nodes.add_node.Goals as goal

pub returns-then-ends_with : goal.returns-then-ends_with
returns-then-ends_with c = nodes.same (c.ends_with.ensures.is c.if-ends_with.true) refl

pub returns : goal.returns
returns c = nodes.new (c.ends_with.ensures.other c.if-ends_with.false) c.in_ok-push.ensures
