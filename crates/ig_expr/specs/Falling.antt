-- For the proof checker alone: a reader need not read this file.
-- An operand has fewer nodes than the expression that it is a part of, so that a recursion over expressions ends.
use Rattle.std.specs.Prelude.{◌≤◌, max}
use Rattle.std.proofs.Common.{arith}
use Rattle.ig_expr.specs.Nodes.{nodes}
use Rattle.ig_expr.specs.View.{expression_of}
use Rattle.ig_expr.specs.declared.expression.Expr.{Expr}
use Rattle.ig_expr.specs.declared.expression.Expr.TheVariants.{Int, Bool, Here, Var, Not, Neg, Binary, Of, Same, Spells, Outer, Inside, FreeBefore, FreeAfter}
use Rattle.ig_expr.specs.declared.expression.Operand.TheDeep.{deep-Expr}

-- no operand has as many nodes as the expression
pub depth_le-nodes : (e : Expr) → max (deep-Expr e) 0 ≤ nodes (expression_of e)
depth_le-nodes (Int n) = omega arith
depth_le-nodes (Bool b) = omega arith
depth_le-nodes Here = omega arith
depth_le-nodes (Var x) = omega arith
depth_le-nodes (Not a) = omega arith
depth_le-nodes (Neg a) = omega arith
depth_le-nodes (Binary op a b) = omega arith
depth_le-nodes (Of function a) = omega arith
depth_le-nodes (Same a b) = omega arith
depth_le-nodes (Spells a word) = omega arith
depth_le-nodes (Outer a b) = omega arith
depth_le-nodes (Inside a b) = omega arith
depth_le-nodes (FreeBefore pattern) = omega arith
depth_le-nodes (FreeAfter pattern) = omega arith
