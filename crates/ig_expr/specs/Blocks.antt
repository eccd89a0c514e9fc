-- The pair of a column and a block's start, which is carried down to the tokens of a block.
use Rattle.std.specs.Prelude.{ℕ, ◌&&◌, ◌||◌, if◌then◌else◌, List, Option, Some, None, ℤ, pos, int_lt}
use Rattle.std.specs.Int.{int_max}
use Rattle.std.specs.Ordering.{int_eq}
use Rattle.ig_text.specs.Input.{Input}
use Rattle.ig_text.specs.Lines.{column_at}
use Rattle.ig_expr.specs.Operations.{integer, truth}
use Rattle.ig_expr.specs.declared.value.Value.{Value}
use Rattle.ig_expr.specs.declared.value.Value.TheVariants as value

abbrev pub outer_by : Option ℤ → ℕ → ℤ → ℤ → Option Value
outer_by None here a b = None
outer_by (Some column) here a b = integer (Some (if int_eq (pos here) b then a else int_max a column))

-- a where `here` is b, else the greater of a and the column of b
abbrev pub outer : Input → ℕ → Value → Value → Option Value
outer text here (value.Int a) (value.Int b) = outer_by (column_at text b) here a b
outer text here a b = None

abbrev pub inside_by : Option ℤ → Option ℤ → ℕ → ℤ → ℤ → Option Value
inside_by None start here a b = None
inside_by (Some column) None here a b = None
inside_by (Some column) (Some start) here a b =
    truth (int_lt a column && (int_eq (pos here) b || int_lt start column))

-- whether the column of `here` is greater than a, and `here` is b or in a column greater than that of b
abbrev pub inside : Input → ℕ → Value → Value → Option Value
inside text here (value.Int a) (value.Int b) = inside_by (column_at text (pos here)) (column_at text b) here a b
inside text here a b = None
