use Rattle.std.proofs.Common.{arith}
use Rattle.ig_forest.proofs.ShortCursors.{cursors_are_short}
use Rattle.ig_forest.proofs.tree_laws.cursors_are_short.Goals as goal

pub returns : goal.returns
returns c = cursors_are_short c.alternatives_are_one.ensures c.args.forest.now (omega (arith, c.items.ensures, c.items.type_inv))
