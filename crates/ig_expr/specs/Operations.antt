-- What operators give: an integer operation its result over whole numbers, where that fits 64 bits.
use Rattle.std.specs.Prelude.{nat_lt, ◌==◌, Bool, true, false, not, ◌&&◌, ◌||◌, if◌then◌else◌, Option, Some, None, option_map, ℤ, pos, negsuc, ◌+ℤ◌, ◌-ℤ◌, ◌*ℤ◌, neg_ℤ, int_lt, int_le, int_div, int_rem}
use Rattle.std.specs.Ordering.{int_eq}
use Rattle.ig_text.specs.declared.text.Span.{Span}
use Rattle.ig_text.specs.Limits.{integers_end}
use Rattle.ig_expr.specs.declared.value.Value.{Value}
use Rattle.ig_expr.specs.declared.value.Value.TheVariants as value
use Rattle.ig_expr.specs.declared.operator.Op.{Op}
use Rattle.ig_expr.specs.declared.operator.Op.TheVariants.{Add, Sub, Mul, Div, Mod, Less, LessEqual, Greater, GreaterEqual, Equal, NotEqual, And, Or}

-- whether the number fits 64 bits
abbrev pub fits : ℤ → Bool
fits (pos n) = nat_lt n integers_end
fits (negsuc n) = nat_lt n integers_end

-- the number, where it fits
abbrev pub whole : ℤ → Option ℤ
whole n = if fits n then Some n else None

-- the quotient, truncated toward zero
abbrev pub quotient : ℤ → ℤ → Option ℤ
quotient a b = if int_eq b (pos 0) then None else whole (int_div a b)

-- what the quotient leaves of a, with the sign of a: it is no greater than a, and so it fits
abbrev pub remainder : ℤ → ℤ → Option ℤ
remainder a b = if int_eq b (pos 0) then None else Some (int_rem a b)

abbrev pub integer : Option ℤ → Option Value
integer = option_map value.Int

abbrev pub truth : Bool → Option Value
truth b = Some (value.Bool b)

-- whether two truth values are equal
abbrev pub is_truth : Bool → Bool → Bool
is_truth true b = b
is_truth false b = not b

-- whether two spans are equal
abbrev pub is_span : Span → Span → Bool
is_span a b = a.begin == b.begin && a.end == b.end

abbrev pub on_integers : Op → ℤ → ℤ → Option Value
on_integers Add a b = integer (whole (a +ℤ b))
on_integers Sub a b = integer (whole (a -ℤ b))
on_integers Mul a b = integer (whole (a *ℤ b))
on_integers Div a b = integer (quotient a b)
on_integers Mod a b = integer (remainder a b)
on_integers Less a b = truth (int_lt a b)
on_integers LessEqual a b = truth (int_le a b)
on_integers Greater a b = truth (int_lt b a)
on_integers GreaterEqual a b = truth (int_le b a)
on_integers Equal a b = truth (int_eq a b)
on_integers NotEqual a b = truth (not (int_eq a b))
on_integers And a b = None
on_integers Or a b = None

abbrev pub on_truths : Op → Bool → Bool → Option Value
on_truths Equal a b = truth (is_truth a b)
on_truths NotEqual a b = truth (not (is_truth a b))
on_truths And a b = truth (a && b)
on_truths Or a b = truth (a || b)
on_truths op a b = None

abbrev pub on_spans : Op → Span → Span → Option Value
on_spans Equal a b = truth (is_span a b)
on_spans NotEqual a b = truth (not (is_span a b))
on_spans op a b = None

-- what an operator gives at two values
abbrev pub operation : Op → Value → Value → Option Value
operation op (value.Int a) (value.Int b) = on_integers op a b
operation op (value.Bool a) (value.Bool b) = on_truths op a b
operation op (value.Span a) (value.Span b) = on_spans op a b
operation op a b = None

abbrev pub negation : Value → Option Value
negation (value.Bool a) = truth (not a)
negation a = None

abbrev pub opposite : Value → Option Value
opposite (value.Int a) = integer (whole (neg_ℤ a))
opposite a = None
