-- The order of values, and of lists of values.
use Rattle.std.specs.Prelude.{List}
use Rattle.std.specs.declared.cmp.Ordering.{Ordering}
use Rattle.std.specs.declared.cmp.Ordering.TheVariants.{Less, Greater}
use Rattle.std.specs.Ordering.{ordering_then, nat_cmp, int_cmp, bool_cmp}
use Rattle.std.specs.Cmp.Lexicographic.{slice_cmp}
use Rattle.ig_expr.specs.declared.value.Value.{Value}
use Rattle.ig_expr.specs.declared.value.Value.TheVariants as value

-- integers by size, false before true, spans by their begin and then by their end
abbrev pub value_cmp : Value → Value → Ordering
value_cmp (value.Int a) (value.Int b) = int_cmp a b
value_cmp (value.Bool a) (value.Bool b) = bool_cmp a b
value_cmp (value.Span a) (value.Span b) = ordering_then (nat_cmp a.begin b.begin) (nat_cmp a.end b.end)
-- values of two kinds: integers before truth values before spans
value_cmp (value.Int a) other = Less
value_cmp (value.Bool a) (value.Int b) = Greater
value_cmp (value.Bool a) (value.Span b) = Less
value_cmp (value.Span a) other = Greater

-- lists by their first difference, and a list before those that it begins
abbrev pub values_cmp : List Value → List Value → Ordering
values_cmp = slice_cmp value_cmp
