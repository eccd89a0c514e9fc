-- `==` tells values apart, and lists of values.
use Rattle.std.proofs.Common.{◌≡◌, ◌↔◌, List, Bool, IsTrue, ap, eqb, ◌&&◌}
use Rattle.std.specs.Bool.{Decides}
use Rattle.std.specs.Cmp.{booleans_Decides}
use Rattle.std.specs.Cmp.Lexicographic.{pointwise, pointwise_decides}
use Rattle.std.proofs.lemmas.Bool.Decides.{Decides-eqb, Decides-int_eq, Decides-and, Decides-at, Decides-like}
use Rattle.ig_text.specs.declared.text.Span.{Span}
use Rattle.ig_expr.specs.declared.value.Value.{Value}
use Rattle.ig_expr.specs.declared.value.Value.TheVariants as value
use Rattle.ig_expr.specs.contracts.value.ValuePartialEq.TheImpl as comparison

spans : (a b : Span) → Decides (eqb a.begin b.begin && eqb a.end b.end) (a ≡ b)
spans a b =
    Decides-like (eqb a.begin b.begin && eqb a.end b.end) (λ h i. record { begin = h.0 i; end = h.1 i })
    (λ p. (ap (λ (s : Span). s.begin) p, ap (λ (s : Span). s.end) p))
    (Decides-and (eqb a.begin b.begin) (eqb a.end b.end) (Decides-eqb a.begin b.begin) (Decides-eqb a.end b.end))

pub value_eq-Decides : (a b : Value) → Decides ((comparison.ghosts).eq a b) (a ≡ b)
value_eq-Decides (value.Int a) (value.Int b) = Decides-like _ (ap value.Int) (λ p. cc) (Decides-int_eq a b)
value_eq-Decides (value.Bool a) (value.Bool b) = Decides-like _ (ap value.Bool) (λ p. cc) (booleans_Decides a b)
value_eq-Decides (value.Span a) (value.Span b) = Decides-like _ (ap value.Span) (λ p. cc) (spans a b)
value_eq-Decides (value.Int a) (value.Bool b) = (λ h. cc, λ h. cc)
value_eq-Decides (value.Int a) (value.Span b) = (λ h. cc, λ h. cc)
value_eq-Decides (value.Bool a) (value.Int b) = (λ h. cc, λ h. cc)
value_eq-Decides (value.Bool a) (value.Span b) = (λ h. cc, λ h. cc)
value_eq-Decides (value.Span a) (value.Int b) = (λ h. cc, λ h. cc)
value_eq-Decides (value.Span a) (value.Bool b) = (λ h. cc, λ h. cc)

-- lists of values are `==` exactly where they are equal
pub values_eq-Decides : (xs ys : List Value) → Decides (pointwise (comparison.ghosts).eq xs ys) (xs ≡ ys)
values_eq-Decides = pointwise_decides value_eq-Decides

pub told_equal : (xs ys vs ws : List Value) (r : Bool) → r ≡ pointwise (comparison.ghosts).eq vs ws → vs ≡ xs → ws ≡ ys →
    IsTrue r ↔ (xs ≡ ys)
told_equal xs ys vs ws r told e f =
    let same : r ≡ pointwise (comparison.ghosts).eq xs ys = rw (← e, ← f) told in
    Decides-at r (pointwise (comparison.ghosts).eq xs ys) same (values_eq-Decides xs ys)
