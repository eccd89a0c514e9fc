use Rattle.ig_expr.proofs.TreeOrder.{no_difference, turned_tree}
use Rattle.ig_expr.proofs.Transitivity.{onward, alike}
use Rattle.ig_expr.proofs.tree_order.trees_are_ordered.Goals as goal

pub returns : goal.returns
returns k = record { itself = no_difference; turned = turned_tree; onward = onward; alike = alike }
