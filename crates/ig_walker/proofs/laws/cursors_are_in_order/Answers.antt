use Rattle.ig_walker.proofs.Orders.{in_order}
use Rattle.ig_walker.proofs.laws.cursors_are_in_order.Goals as goal

pub returns : goal.returns
returns c = in_order
