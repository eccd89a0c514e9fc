-- The values of expressions fit 64 bits, and their spans are small.
use Rattle.std.proofs.Common.{◌≡◌, ℕ, zero, suc, ◌+◌, ◌<◌, ◌≤◌, List, [], ◌∷◌, Bool, true, false, Option, Some, None, cond, ltb, ◌-◌, ℤ, pos, negsuc, ◌+ℤ◌, ◌-ℤ◌, ◌*ℤ◌, neg_ℤ, if◌then◌else◌, length, slice_get, take, All, refl, sym, subst, arith, lit<, ◌*◌}
use Rattle.std.specs.Prelude.{nat_le, option_and_then, option_map, int_div, int_rem, int_lt}
use Rattle.std.specs.Int.{int_max}
use Rattle.std.specs.Int.Signed.{mag, mag_rem}
use Rattle.std.specs.List.{list_all}
use Rattle.std.specs.Ordering.{int_eq}
use Rattle.std.proofs.lemmas.Bool.{ltb-true}
use Rattle.std.proofs.lemmas.List.Elements.{All-contains}
use Rattle.std.proofs.lemmas.List.Sums.{count_by-le-length}
use Rattle.std.proofs.lemmas.Option.{same_Some}
use Rattle.std.proofs.lemmas.Bool.Decides.{nat_tests}
use Rattle.ig_text.proofs.StopTable.{column_few}
use Rattle.ig_text.specs.Input.{Input, KeepsLimits}
use Rattle.ig_text.proofs.Lists.{contains_from_at}
use Rattle.ig_text.specs.Lines.{column_at, column_of, line_of, is_line_feed}
use Rattle.ig_text.specs.Limits.{numbers_end, integers_end, most_characters, most_tabs}
use Rattle.ig_text.specs.Words.{is_digit}
use Rattle.ig_text.specs.declared.text.Span.{Span}
use Rattle.ig_expr.specs.Blocks.{outer, outer_by, inside, inside_by}
use Rattle.ig_expr.specs.Evaluation.{value_of, with_two}
use Rattle.ig_expr.specs.Expression as tree
use Rattle.ig_expr.specs.Expression.{Expression}
use Rattle.ig_expr.specs.Names.{place_of}
use Rattle.ig_expr.specs.Operations.{fits, whole, quotient, remainder, integer, truth, negation, opposite, operation, on_integers, on_truths, on_spans}
use Rattle.ig_expr.specs.Reading.{applied, read_span, read_integer, line_from, number_of, letters_of, same, spells, spelled}
use Rattle.ig_expr.specs.declared.operator.Op.{Op}
use Rattle.ig_expr.specs.declared.operator.Op.TheVariants.{Add, Sub, Mul, Div, Mod, Less, LessEqual, Greater, GreaterEqual, Equal, NotEqual, And, Or}
use Rattle.ig_expr.specs.declared.operator.Function.{Function}
use Rattle.ig_expr.specs.declared.operator.Function.TheVariants.{Begin, End, Size, Column, Line, Number}
use Rattle.ig_expr.specs.declared.value.Value.{Value}
use Rattle.ig_expr.specs.declared.value.Value.TheVariants as value
use Rattle.ig_forest_reader.specs.Written.{IsSmall, IsSmallSpan}
use Rattle.ig_verify_laws.specs.Ranges.{HasSmallIntegers}
use Rattle.ig_verify_laws.specs.ReducedLaws.{ValuesAreSmall}

-- each of the values is small
abbrev pub AreSmall : List Value → Type 0
AreSmall vs = (k : ℕ) (v : Value) → slice_get vs k ≡ Some v → IsSmall v

pub each_small : (vs : List Value) → All IsSmall vs → AreSmall vs
each_small vs all k v at = All-contains IsSmall vs v all (contains_from_at vs k v at)

le_lt : (a b c : ℕ) → a ≤ b → b < c → a < c
le_lt a b c h k = omega (arith, h, k)

lt_lt : (a b c : ℕ) → a < b → b < c → a < c
lt_lt a b c h k = omega (arith, h, k)

-- what is there is small
abbrev IsSmallIn : Option Value → Type 0
IsSmallIn o = (v : Value) → o ≡ Some v → IsSmall v

none_small : IsSmallIn None
none_small v e = absurd (cc)

some_small : (a : Value) → IsSmall a → IsSmallIn (Some a)
some_small a small v e = subst IsSmall (same_Some a v e) small

truth_small : (b : Bool) → IsSmallIn (truth b)
truth_small b = some_small (value.Bool b) tt

-- so is an integer that is there
abbrev FitsIn : Option ℤ → Type 0
FitsIn o = (n : ℤ) → o ≡ Some n → mag n < integers_end

integer_small : (o : Option ℤ) → FitsIn o → IsSmallIn (integer o)
integer_small None h = none_small
integer_small (Some n) h = some_small (value.Int n) (h n refl)

fits_below : (n : ℤ) → fits n ≡ true → mag n < integers_end
fits_below (pos n) e = ltb-true n integers_end e
fits_below (negsuc n) e = ltb-true n integers_end e

whole_fits : (n : ℤ) → FitsIn (whole n)
whole_fits n = (elim (fits n) as (λ b. fits n ≡ b → FitsIn (if b then Some n else None)) [ true ↦ λ e m f. subst (λ z. mag z < integers_end) (same_Some n m f) (fits_below n e) | false ↦ λ e m f. absurd (cc) ]) refl

whole_small : (n : ℤ) → IsSmallIn (integer (whole n))
whole_small n = integer_small (whole n) (whole_fits n)

either_fits : (b : Bool) (o : Option ℤ) → FitsIn o → FitsIn (if b then None else o)
either_fits true o h = λ n e. absurd (cc)
either_fits false o h = h

fits_some : (n : ℤ) → mag n < integers_end → FitsIn (Some n)
fits_some n h m e = subst (λ z. mag z < integers_end) (same_Some n m e) h

integers_small : (op : Op) (a b : ℤ) → mag a < integers_end → IsSmallIn (on_integers op a b)
integers_small Add a b h = whole_small (a +ℤ b)
integers_small Sub a b h = whole_small (a -ℤ b)
integers_small Mul a b h = whole_small (a *ℤ b)
integers_small Div a b h = integer_small (quotient a b) (either_fits (int_eq b (pos 0)) (whole (int_div a b)) (whole_fits (int_div a b)))
integers_small Mod a b h =
    integer_small (remainder a b)
    (either_fits (int_eq b (pos 0)) (Some (int_rem a b))
    (fits_some (int_rem a b) (le_lt (mag (int_rem a b)) (mag a) integers_end (mag_rem a b) h)))
integers_small Less a b h = truth_small _
integers_small LessEqual a b h = truth_small _
integers_small Greater a b h = truth_small _
integers_small GreaterEqual a b h = truth_small _
integers_small Equal a b h = truth_small _
integers_small NotEqual a b h = truth_small _
integers_small And a b h = none_small
integers_small Or a b h = none_small

truths_small : (op : Op) (a b : Bool) → IsSmallIn (on_truths op a b)
truths_small Equal a b = truth_small _
truths_small NotEqual a b = truth_small _
truths_small And a b = truth_small _
truths_small Or a b = truth_small _
truths_small op a b = none_small

spans_small : (op : Op) (a b : Span) → IsSmallIn (on_spans op a b)
spans_small Equal a b = truth_small _
spans_small NotEqual a b = truth_small _
spans_small op a b = none_small

operation_small : (op : Op) (a b : Value) → IsSmall a → IsSmallIn (operation op a b)
operation_small op (value.Int a) (value.Int b) h = integers_small op a b h
operation_small op (value.Bool a) (value.Bool b) h = truths_small op a b
operation_small op (value.Span a) (value.Span b) h = spans_small op a b
operation_small op a b h = none_small

negation_small : (a : Value) → IsSmallIn (negation a)
negation_small (value.Bool a) = truth_small _
negation_small a = none_small

opposite_small : (a : Value) → IsSmallIn (opposite a)
opposite_small (value.Int a) = whole_small (neg_ℤ a)
opposite_small a = none_small

-- where a part has a small value, what is made of it is small
then_small : (f : Value → Option Value) (o : Option Value) → IsSmallIn o → ((a : Value) → IsSmall a → IsSmallIn (f a)) →
    IsSmallIn (option_and_then f o)
then_small f None small each = none_small
then_small f (Some a) small each = each a (small a refl)

two_small : (f : Value → Value → Option Value) (o p : Option Value) → IsSmallIn o → IsSmallIn p →
    ((a b : Value) → IsSmall a → IsSmall b → IsSmallIn (f a b)) → IsSmallIn (with_two f o p)
two_small f None p small second each = none_small
two_small f (Some a) None small second each = none_small
two_small f (Some a) (Some b) small second each = each a b (small a refl) (second b refl)

below_numbers : (n : ℕ) → n < numbers_end → n < integers_end
below_numbers n h = lt_lt n numbers_end integers_end h (lit< tt)

one_of : (b : Bool) (x y m : ℕ) → x < m → y < m → mag (cond b (negsuc x) (pos y)) < m
one_of true x y m h k = h
one_of false x y m h k = k

-- a difference is no greater than its parts
difference_small : (a b : ℕ) → a < numbers_end → b < numbers_end → mag (pos a -ℤ pos b) < integers_end
difference_small a zero h k = below_numbers (a + 0) (let e : a + 0 ≡ a = omega arith in subst (λ z. z < numbers_end) (sym e) h)
difference_small a (suc n) h k =
    one_of (ltb a (suc n)) (suc n - suc a) (a - suc n) integers_end
    (le_lt (suc n - suc a) (suc n) integers_end (omega arith) (below_numbers (suc n) k))
    (le_lt (a - suc n) a integers_end (omega arith) (below_numbers a h))

number_fits : (o : Option (List ℕ)) → FitsIn (number_of o)
number_fits None = λ n e. absurd (cc)
number_fits (Some []) = λ n e. absurd (cc)
number_fits (Some (c ∷ cs)) =
    (elim (list_all is_digit (c ∷ cs)) as (λ b. FitsIn (if b then whole (pos (spelled 0 (c ∷ cs))) else None))
    [ true ↦ whole_fits (pos (spelled 0 (c ∷ cs))) | false ↦ λ n e. absurd (cc) ])

take_few : (p : ℕ) (xs : List ℕ) → length (take p xs) ≤ length xs
take_few zero xs = omega arith
take_few (suc p) [] = omega arith
take_few (suc p) (x ∷ xs) = let few = take_few p xs in omega (arith, few)

either_mag : (b : Bool) (x y : ℤ) (m : ℕ) → mag x < m → mag y < m → mag (if b then x else y) < m
either_mag true x y m h k = h
either_mag false x y m h k = k

module _ (text : Input) (short : KeepsLimits text) where
  in_text : (n : ℕ) → n ≤ length text.characters + 1 → n < integers_end
  in_text n h = le_lt n (length text.characters + 1) integers_end h (lt_lt (length text.characters + 1) 1048578 integers_end (omega (arith, short.few)) (lit< tt))

  -- a column is small, since a tab goes on over few of them
  wide_column : (b : Bool) (p : ℕ) → nat_le p (length text.characters) ≡ b → FitsIn (if b then Some (pos (column_of text p)) else None)
  wide_column true p e =
      let within : p ≤ length text.characters = grind (arith, nat_tests) in
      let few = column_few text p short.width within in
      fits_some (pos (column_of text p))
      (le_lt (column_of text p) (most_tabs * most_characters + 1) integers_end (omega (arith, few, short.few)) (lit< tt))
  wide_column false p e = λ n f. absurd (cc)

  column_fits : (p : ℤ) → FitsIn (column_at text p)
  column_fits (pos p) = wide_column (nat_le p (length text.characters)) p refl
  column_fits (negsuc zero) = fits_some (pos 0) (lit< tt)
  column_fits (negsuc (suc n)) = λ m e. absurd (cc)

  line_few : (p : ℕ) → line_of text p ≤ length text.characters + 1
  line_few p =
      let few = count_by-le-length is_line_feed (take p text.characters) in let part = take_few p text.characters in omega (arith, few, part)

  some_line : (b : Bool) (c : ℕ) → c ≤ length text.characters + 1 → FitsIn (option_map pos (if b then Some c else None))
  some_line true c h = fits_some (pos c) (in_text c h)
  some_line false c h = λ n e. absurd (cc)

  line_fits : (p : ℤ) → FitsIn (line_from text p)
  line_fits (pos p) = some_line (nat_le p (length text.characters)) (line_of text p) (line_few p)
  line_fits (negsuc n) = λ m e. absurd (cc)

  read_integer_small : (f : Function) (p : ℤ) → IsSmallIn (read_integer text f p)
  read_integer_small Column p = integer_small _ (column_fits p)
  read_integer_small Line p = integer_small _ (line_fits p)
  read_integer_small f p = none_small

  read_span_small : (f : Function) (s : Span) → IsSmallSpan s → IsSmallIn (read_span text f s)
  read_span_small Begin s small = some_small (value.Int (pos s.begin)) (below_numbers s.begin small.begin)
  read_span_small End s small = some_small (value.Int (pos s.end)) (below_numbers s.end small.end)
  read_span_small Size s small =
      some_small (value.Int (pos s.end -ℤ pos s.begin)) (difference_small s.end s.begin small.end small.begin)
  read_span_small Number s small = integer_small _ (number_fits (letters_of text s))
  read_span_small f s small = none_small

  applied_small : (f : Function) (a : Value) → IsSmall a → IsSmallIn (applied text f a)
  applied_small f (value.Int p) small = read_integer_small f p
  applied_small f (value.Bool b) small = none_small
  applied_small f (value.Span s) small = read_span_small f s small

  same_small : (a b : Value) → IsSmallIn (same text a b)
  same_small (value.Span s) (value.Span t) = truth_small _
  same_small a b = none_small

  spells_small : (word : List ℕ) (a : Value) → IsSmallIn (spells text word a)
  spells_small word (value.Span s) = truth_small _
  spells_small word a = none_small

  outer_by_small : (o : Option ℤ) (here : ℕ) (a b : ℤ) → FitsIn o → mag a < integers_end → IsSmallIn (outer_by o here a b)
  outer_by_small None here a b h k = none_small
  outer_by_small (Some column) here a b h k =
      some_small (value.Int (if int_eq (pos here) b then a else int_max a column))
      (either_mag (int_eq (pos here) b) a (int_max a column) integers_end k
      (either_mag (int_lt column a) a column integers_end k (h column refl)))

  outer_small : (here : ℕ) (a b : Value) → IsSmall a → IsSmallIn (outer text here a b)
  outer_small here (value.Int a) (value.Int b) h = outer_by_small (column_at text b) here a b (column_fits b) h
  outer_small here a b h = none_small

  inside_by_small : (o p : Option ℤ) (here : ℕ) (a b : ℤ) → IsSmallIn (inside_by o p here a b)
  inside_by_small None p here a b = none_small
  inside_by_small (Some column) None here a b = none_small
  inside_by_small (Some column) (Some start) here a b = truth_small _

  inside_small : (here : ℕ) (a b : Value) → IsSmallIn (inside text here a b)
  inside_small here (value.Int a) (value.Int b) = inside_by_small (column_at text (pos here)) (column_at text b) here a b
  inside_small here a b = none_small

  module _ (names : List (List ℕ)) (env : List Value) (here : ℕ) (within : here ≤ length text.characters) (small : AreSmall env) where
    looked_up_small : (o : Option ℕ) → IsSmallIn (option_and_then (slice_get env) o)
    looked_up_small None = none_small
    looked_up_small (Some k) = small k

    value_small : (e : Expression) → HasSmallIntegers e → IsSmallIn (value_of text names env here e)
    value_small (tree.Integer n) h = some_small (value.Int n) h
    value_small (tree.Truth b) h = truth_small b
    value_small tree.Here h = some_small (value.Int (pos here)) (in_text here (omega (arith, within)))
    value_small (tree.Variable x) h = looked_up_small (place_of names x)
    value_small (tree.Not a) h = then_small negation _ (value_small a h) (λ v k. negation_small v)
    value_small (tree.Negative a) h = then_small opposite _ (value_small a h) (λ v k. opposite_small v)
    value_small (tree.Binary op a b) h =
        two_small (operation op) _ _ (value_small a h.0) (value_small b h.1) (λ v w k l. operation_small op v w k)
    value_small (tree.Of f a) h = then_small (applied text f) _ (value_small a h) (applied_small f)
    value_small (tree.Same a b) h =
        two_small (same text) _ _ (value_small a h.0) (value_small b h.1) (λ v w k l. same_small v w)
    value_small (tree.Spells a word) h = then_small (spells text word) _ (value_small a h) (λ v k. spells_small word v)
    value_small (tree.Outer a b) h =
        two_small (outer text here) _ _ (value_small a h.0) (value_small b h.1) (λ v w k l. outer_small here v w k)
    value_small (tree.Inside a b) h =
        two_small (inside text here) _ _ (value_small a h.0) (value_small b h.1) (λ v w k l. inside_small here v w)
    value_small (tree.FreeBefore pattern) h = truth_small _
    value_small (tree.FreeAfter pattern) h = truth_small _

pub values_small : ValuesAreSmall
values_small text names env here e v short within small h is = value_small text short names env here within (each_small env small) e h v is
