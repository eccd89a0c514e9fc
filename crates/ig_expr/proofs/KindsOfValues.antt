-- The value of an expression is of the expression's kind.
use Rattle.std.proofs.Common.{◌≡◌, ℕ, Bool, true, false, if◌then◌else◌, List, map, Option, Some, None, sym, ap, ◌∙◌}
use Rattle.std.specs.Prelude.{ℤ, option_map, option_and_then, slice_get}
use Rattle.std.proofs.lemmas.Option.{same_Some, slice_get-map}
use Rattle.ig_text.specs.Input.{Input}
use Rattle.ig_text.specs.Lines.{column_at}
use Rattle.ig_text.specs.declared.text.Span.{Span}
use Rattle.ig_expr.specs.Expression as tree
use Rattle.ig_expr.specs.Expression.{Expression}
use Rattle.ig_expr.specs.Names.{place_of}
use Rattle.ig_expr.specs.Kinds.{kind_of_value, is_kind, of_one, of_two, of_equals, kind_of_operation, kind_in}
use Rattle.ig_expr.specs.Operations.{integer, truth, on_integers, on_truths, on_spans, operation, negation, opposite}
use Rattle.ig_expr.specs.Reading.{applied, read_span, read_integer, same, spells}
use Rattle.ig_expr.specs.Blocks.{outer, outer_by, inside, inside_by}
use Rattle.ig_expr.specs.Evaluation.{with_two, value_of}
use Rattle.ig_expr.specs.Laws.{ValuesHaveKinds}
use Rattle.ig_expr.specs.declared.kind.Kind.{Kind}
use Rattle.ig_expr.specs.declared.kind.Kind.TheVariants as kind
use Rattle.ig_expr.specs.declared.value.Value.{Value}
use Rattle.ig_expr.specs.declared.value.Value.TheVariants as value
use Rattle.ig_expr.specs.declared.operator.Op.{Op}
use Rattle.ig_expr.specs.declared.operator.Op.TheVariants.{Add, Sub, Mul, Div, Mod, Less, LessEqual, Greater, GreaterEqual, Equal, NotEqual, And, Or}
use Rattle.ig_expr.specs.declared.operator.Function.{Function}
use Rattle.ig_expr.specs.declared.operator.Function.TheVariants.{Begin, End, Size, Column, Line, Number}

-- each value that it may be is of the kind
abbrev IsOf : Kind → Option Value → Type 0
IsOf k o = (v : Value) → o ≡ Some v → kind_of_value v ≡ k

of_integer : (o : Option ℤ) → IsOf kind.Int (integer o)
of_integer None v e = cc
of_integer (Some n) v e = sym (ap kind_of_value (same_Some (value.Int n) v e))

of_truth : (b : Bool) → IsOf kind.Bool (truth b)
of_truth b v e = sym (ap kind_of_value (same_Some (value.Bool b) v e))

-- the kind of what an operator gives
abbrev given_by : Op → Kind
given_by Add = kind.Int
given_by Sub = kind.Int
given_by Mul = kind.Int
given_by Div = kind.Int
given_by Mod = kind.Int
given_by op = kind.Bool

of_integers : (op : Op) (a b : ℤ) → IsOf (given_by op) (on_integers op a b)
of_integers Add a b v e = of_integer _ v e
of_integers Sub a b v e = of_integer _ v e
of_integers Mul a b v e = of_integer _ v e
of_integers Div a b v e = of_integer _ v e
of_integers Mod a b v e = of_integer _ v e
of_integers Less a b v e = of_truth _ v e
of_integers LessEqual a b v e = of_truth _ v e
of_integers Greater a b v e = of_truth _ v e
of_integers GreaterEqual a b v e = of_truth _ v e
of_integers Equal a b v e = of_truth _ v e
of_integers NotEqual a b v e = of_truth _ v e
of_integers And a b v e = cc
of_integers Or a b v e = cc

of_truths : (op : Op) (a b : Bool) → IsOf (given_by op) (on_truths op a b)
of_truths Equal a b v e = of_truth _ v e
of_truths NotEqual a b v e = of_truth _ v e
of_truths And a b v e = of_truth _ v e
of_truths Or a b v e = of_truth _ v e
of_truths op a b v e = cc

of_spans : (op : Op) (a b : Span) → IsOf (given_by op) (on_spans op a b)
of_spans Equal a b v e = of_truth _ v e
of_spans NotEqual a b v e = of_truth _ v e
of_spans op a b v e = cc

of_operation : (op : Op) (a b : Value) → IsOf (given_by op) (operation op a b)
of_operation op (value.Int a) (value.Int b) v e = of_integers op a b v e
of_operation op (value.Bool a) (value.Bool b) v e = of_truths op a b v e
of_operation op (value.Span a) (value.Span b) v e = of_spans op a b v e
of_operation op a b v e = cc

of_negation : (a : Value) → IsOf kind.Bool (negation a)
of_negation (value.Bool a) v e = of_truth _ v e
of_negation a v e = cc

of_opposite : (a : Value) → IsOf kind.Int (opposite a)
of_opposite (value.Int a) v e = of_integer _ v e
of_opposite a v e = cc

of_read_integer : (text : Input) (f : Function) (p : ℤ) → IsOf kind.Int (read_integer text f p)
of_read_integer text Column p v e = of_integer _ v e
of_read_integer text Line p v e = of_integer _ v e
of_read_integer text f p v e = cc

of_read_span : (text : Input) (f : Function) (s : Span) → IsOf kind.Int (read_span text f s)
of_read_span text Begin s v e = sym (ap kind_of_value (same_Some _ v e))
of_read_span text End s v e = sym (ap kind_of_value (same_Some _ v e))
of_read_span text Size s v e = sym (ap kind_of_value (same_Some _ v e))
of_read_span text Number s v e = of_integer _ v e
of_read_span text f s v e = cc

of_applied : (text : Input) (f : Function) (a : Value) → IsOf kind.Int (applied text f a)
of_applied text f (value.Int p) v e = of_read_integer text f p v e
of_applied text f (value.Bool b) v e = cc
of_applied text f (value.Span s) v e = of_read_span text f s v e

of_same : (text : Input) (a b : Value) → IsOf kind.Bool (same text a b)
of_same text (value.Span s) (value.Span t) v e = of_truth _ v e
of_same text a b v e = cc

of_spells : (text : Input) (word : List ℕ) (a : Value) → IsOf kind.Bool (spells text word a)
of_spells text word (value.Span s) v e = of_truth _ v e
of_spells text word a v e = cc

of_outer_by : (column : Option ℤ) (here : ℕ) (a b : ℤ) → IsOf kind.Int (outer_by column here a b)
of_outer_by None here a b v e = cc
of_outer_by (Some column) here a b v e = sym (ap kind_of_value (same_Some _ v e))

of_outer : (text : Input) (here : ℕ) (a b : Value) → IsOf kind.Int (outer text here a b)
of_outer text here (value.Int a) (value.Int b) v e = of_outer_by (column_at text b) here a b v e
of_outer text here a b v e = cc

of_inside_by : (column start : Option ℤ) (here : ℕ) (a b : ℤ) → IsOf kind.Bool (inside_by column start here a b)
of_inside_by None start here a b v e = cc
of_inside_by (Some column) None here a b v e = cc
of_inside_by (Some column) (Some start) here a b v e = of_truth _ v e

of_inside : (text : Input) (here : ℕ) (a b : Value) → IsOf kind.Bool (inside text here a b)
of_inside text here (value.Int a) (value.Int b) v e = of_inside_by _ _ here a b v e
of_inside text here a b v e = cc

after_one : (k : Kind) (f : Value → Option Value) → ((a : Value) → IsOf k (f a)) → (a : Option Value) →
    IsOf k (option_and_then f a)
after_one k f h None v e = cc
after_one k f h (Some a) v e = h a v e

after_two : (k : Kind) (f : Value → Value → Option Value) → ((a b : Value) → IsOf k (f a b)) → (a b : Option Value) →
    IsOf k (with_two f a b)
after_two k f h None b v e = cc
after_two k f h (Some a) None v e = cc
after_two k f h (Some a) (Some b) v e = h a b v e

-- the kind that is given, where a test is met
when_met : (gives k : Kind) (met : Bool) → (if met then Some gives else None) ≡ Some k → gives ≡ k
when_met gives k true e = same_Some gives k e
when_met gives k false e = cc

one_gives : (takes gives k : Kind) (a : Option Kind) → of_one takes gives a ≡ Some k → gives ≡ k
one_gives takes gives k None e = cc
one_gives takes gives k (Some a) e = when_met gives k (is_kind a takes) e

two_give : (takes gives k : Kind) (a b : Option Kind) → of_two takes gives a b ≡ Some k → gives ≡ k
two_give takes gives k None b e = cc
two_give takes gives k (Some a) None e = cc
two_give takes gives k (Some a) (Some b) e = when_met gives k _ e

equals_give : (k : Kind) (a b : Option Kind) → of_equals a b ≡ Some k → kind.Bool ≡ k
equals_give k None b e = cc
equals_give k (Some a) None e = cc
equals_give k (Some a) (Some b) e = when_met kind.Bool k (is_kind a b) e

operation_gives : (op : Op) (k : Kind) (a b : Option Kind) → kind_of_operation op a b ≡ Some k → given_by op ≡ k
operation_gives Add k a b e = two_give kind.Int kind.Int k a b e
operation_gives Sub k a b e = two_give kind.Int kind.Int k a b e
operation_gives Mul k a b e = two_give kind.Int kind.Int k a b e
operation_gives Div k a b e = two_give kind.Int kind.Int k a b e
operation_gives Mod k a b e = two_give kind.Int kind.Int k a b e
operation_gives Less k a b e = two_give kind.Int kind.Bool k a b e
operation_gives LessEqual k a b e = two_give kind.Int kind.Bool k a b e
operation_gives Greater k a b e = two_give kind.Int kind.Bool k a b e
operation_gives GreaterEqual k a b e = two_give kind.Int kind.Bool k a b e
operation_gives Equal k a b e = equals_give k a b e
operation_gives NotEqual k a b e = equals_give k a b e
operation_gives And k a b e = two_give kind.Bool kind.Bool k a b e
operation_gives Or k a b e = two_give kind.Bool kind.Bool k a b e

-- what stands beside a name in two lists, of which one has the kinds of the other's values
beside : (values : List Value) (k : Kind) (v : Value) (place : Option ℕ) →
    option_and_then (slice_get (map kind_of_value values)) place ≡ Some k →
    option_and_then (slice_get values) place ≡ Some v → kind_of_value v ≡ k
beside values k v None e h = cc
beside values k v (Some i) e h =
    same_Some (kind_of_value v) k (sym (ap (option_map kind_of_value) h) ∙ sym (slice_get-map kind_of_value values i) ∙ e)

module _ (text : Input) (names : List (List ℕ)) (values : List Value) (here : ℕ) where
  -- with the kinds of the values themselves
  of_expression : (e : Expression) (k : Kind) (v : Value) → kind_in names (map kind_of_value values) e ≡ Some k →
      value_of text names values here e ≡ Some v → kind_of_value v ≡ k
  of_expression (tree.Integer n) k v e h = sym (ap kind_of_value (same_Some (value.Int n) v h)) ∙ same_Some kind.Int k e
  of_expression (tree.Truth b) k v e h = of_truth b v h ∙ same_Some kind.Bool k e
  of_expression tree.Here k v e h = sym (ap kind_of_value (same_Some _ v h)) ∙ same_Some kind.Int k e
  of_expression (tree.Variable x) k v e h = beside values k v (place_of names x) e h
  of_expression (tree.Not a) k v e h = after_one kind.Bool negation of_negation _ v h ∙ one_gives _ _ k _ e
  of_expression (tree.Negative a) k v e h = after_one kind.Int opposite of_opposite (value_of text names values here a) v h ∙ one_gives _ _ k _ e
  of_expression (tree.Binary op a b) k v e h =
      after_two (given_by op) (operation op) (of_operation op) _ _ v h ∙ operation_gives op k _ _ e
  of_expression (tree.Of f a) k v e h = after_one kind.Int (applied text f) (of_applied text f) _ v h ∙ one_gives _ _ k _ e
  of_expression (tree.Same a b) k v e h = after_two kind.Bool (same text) (of_same text) _ _ v h ∙ two_give _ _ k _ _ e
  of_expression (tree.Spells a word) k v e h =
      after_one kind.Bool (spells text word) (of_spells text word) _ v h ∙ one_gives _ _ k _ e
  of_expression (tree.Outer a b) k v e h =
      after_two kind.Int (outer text here) (of_outer text here) _ _ v h ∙ two_give _ _ k _ _ e
  of_expression (tree.Inside a b) k v e h =
      after_two kind.Bool (inside text here) (of_inside text here) _ _ v h ∙ two_give _ _ k _ _ e
  of_expression (tree.FreeBefore pattern) k v e h = of_truth _ v h ∙ same_Some kind.Bool k e
  of_expression (tree.FreeAfter pattern) k v e h = of_truth _ v h ∙ same_Some kind.Bool k e

pub values_have_kinds : ValuesHaveKinds
values_have_kinds text names kinds values here e k v are has gives =
    of_expression text names values here e k v (ap (λ (ks : List Kind). kind_in names ks e) are ∙ has) gives
