use Rattle.ig_expr.proofs.TreeOrder.{children_last}
use Rattle.ig_expr.proofs.tree_order.last_child_starts_decide.Goals as goal

pub returns : goal.returns
returns k = children_last
