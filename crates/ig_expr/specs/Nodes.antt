-- For the proof checker alone: a reader need not read this file.
-- How large an expression is, so that a recursion over expressions ends.
use Rattle.std.specs.Prelude.{ℕ, ◌+◌}
use Rattle.ig_expr.specs.Expression.{Expression, Integer, Truth, Here, Variable, Not, Negative, Binary}
use Rattle.ig_expr.specs.Expression.{Of, Same, Spells, Outer, Inside, FreeBefore, FreeAfter}

-- the number of its nodes
abbrev pub nodes : Expression → ℕ
nodes (Integer n) = 1
nodes (Truth b) = 1
nodes Here = 1
nodes (Variable x) = 1
nodes (Not a) = nodes a + 1
nodes (Negative a) = nodes a + 1
nodes (Binary op a b) = nodes a + nodes b + 1
nodes (Of f a) = nodes a + 1
nodes (Same a b) = nodes a + nodes b + 1
nodes (Spells a word) = nodes a + 1
nodes (Outer a b) = nodes a + nodes b + 1
nodes (Inside a b) = nodes a + nodes b + 1
nodes (FreeBefore pattern) = 1
nodes (FreeAfter pattern) = 1
