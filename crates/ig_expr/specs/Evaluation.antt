-- The values of expressions.
use Rattle.std.specs.Prelude.{ℕ, not, List, Option, Some, None, option_and_then, pos}
use Rattle.ig_text.specs.Input.{Input}
use Rattle.ig_expr.specs.Expression as tree
use Rattle.ig_expr.specs.Expression.{Expression}
use Rattle.ig_expr.specs.Names.{look_up}
use Rattle.ig_expr.specs.Operations.{truth, negation, opposite, operation}
use Rattle.ig_expr.specs.Reading.{applied, same, spells}
use Rattle.ig_expr.specs.Matching.{matches_at, matches_before}
use Rattle.ig_expr.specs.Blocks.{outer, inside}
use Rattle.ig_expr.specs.declared.value.Value.{Value}
use Rattle.ig_expr.specs.declared.value.Value.TheVariants as value

-- what f gives at two values, where both are there
abbrev pub with_two : (Value → Value → Option Value) → Option Value → Option Value → Option Value
with_two f None b = None
with_two f (Some a) None = None
with_two f (Some a) (Some b) = f a b

-- the value of an expression at a position, in the environment of the names and their values
module _ (text : Input) (names : List (List ℕ)) (values : List Value) (here : ℕ) where
  abbrev pub value_of : Expression → Option Value
  value_of (tree.Integer n) = Some (value.Int n)
  value_of (tree.Truth b) = Some (value.Bool b)
  value_of tree.Here = Some (value.Int (pos here))
  value_of (tree.Variable x) = look_up names values x
  value_of (tree.Not a) = option_and_then negation (value_of a)
  value_of (tree.Negative a) = option_and_then opposite (value_of a)
  value_of (tree.Binary op a b) = with_two (operation op) (value_of a) (value_of b)
  value_of (tree.Of f a) = option_and_then (applied text f) (value_of a)
  value_of (tree.Same a b) = with_two (same text) (value_of a) (value_of b)
  value_of (tree.Spells a word) = option_and_then (spells text word) (value_of a)
  value_of (tree.Outer a b) = with_two (outer text here) (value_of a) (value_of b)
  value_of (tree.Inside a b) = with_two (inside text here) (value_of a) (value_of b)
  value_of (tree.FreeBefore pattern) = truth (not (matches_before text pattern here))
  value_of (tree.FreeAfter pattern) = truth (not (matches_at text pattern here))
