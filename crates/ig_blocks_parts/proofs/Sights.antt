-- What is visible at a symbol and at what the pass makes of it.
use Rattle.std.proofs.Common.{◌≡◌, ◌∙◌, ℕ, Bool, true, false, List, [], ◌∷◌, ◌++◌, Some, None, refl, sym, ap, ap₂, if◌then◌else◌}
use Rattle.std.specs.Option.{option_or}
use Rattle.ig_text.specs.Words.{is_word}
use Rattle.ig_expr.specs.Expression.{Expression}
use Rattle.ig_expr.specs.Expression as expression
use Rattle.ig_expr.specs.Kinds.{of_one, of_two, kind_of_operation, argument_of}
use Rattle.ig_expr.specs.declared.kind.Kind.{Kind}
use Rattle.ig_expr.specs.declared.kind.Kind.TheVariants as kind
use Rattle.ig_grammar.specs.Visible.{Visible, kind_at, with_kind}
use Rattle.ig_blocks_parts.specs.Setting.{Setting, Pair, lacking, carried, opened, cleared, m_of, f_of, opened_by, cleared_by}
use Rattle.ig_blocks_parts.proofs.Reading.{IsWritten, Reads}
use Rattle.ig_blocks_parts.proofs.Looking.{find, find_join, find_put, put}

with_is_put : (v : Visible) (n : List ℕ) (k : Kind) → with_kind v n (Some k) ≡ put v n k
with_is_put [] n k = refl
with_is_put (pair ∷ v) n k = ap (λ z. if is_word pair.0 n then (n, k) ∷ v else pair ∷ z) (with_is_put v n k)

pub find_with : (v : Visible) (n : List ℕ) (k : Kind) (y : List ℕ) → find (with_kind v n (Some k)) y ≡ (if is_word n y then Some k else find v y)
find_with v n k y = ap (λ z. find z y) (with_is_put v n k) ∙ find_put v n k y

with_none : (v : Visible) (n : List ℕ) → with_kind v n None ≡ v
with_none [] n = refl
with_none (pair ∷ v) n = refl

module _ (s : Setting) where
  -- both see the same kinds at names that the pass doesn't add
  pub record SeeSame (v w : Visible) : Type 0 where
    pub same : (n : List ℕ) → IsWritten s n → find v n ≡ find w n

  pub kind_same : (v w : Visible) → SeeSame v w → (e : Expression) → Reads s e → kind_at v e ≡ kind_at w e
  kind_same v w a (expression.Integer n) r = refl
  kind_same v w a (expression.Truth b) r = refl
  kind_same v w a expression.Here r = refl
  kind_same v w a (expression.Variable x) r = a.same x r
  kind_same v w a (expression.Not e) r = ap (of_one kind.Bool kind.Bool) (kind_same v w a e r)
  kind_same v w a (expression.Negative e) r = ap (of_one kind.Int kind.Int) (kind_same v w a e r)
  kind_same v w a (expression.Binary op e d) r = ap₂ (kind_of_operation op) (kind_same v w a e r.0) (kind_same v w a d r.1)
  kind_same v w a (expression.Of f e) r = ap (of_one (argument_of f) kind.Int) (kind_same v w a e r)
  kind_same v w a (expression.Same e d) r = ap₂ (of_two kind.Span kind.Bool) (kind_same v w a e r.0) (kind_same v w a d r.1)
  kind_same v w a (expression.Spells e word) r = ap (of_one kind.Span kind.Bool) (kind_same v w a e r)
  kind_same v w a (expression.Outer e d) r = ap₂ (of_two kind.Int kind.Int) (kind_same v w a e r.0) (kind_same v w a d r.1)
  kind_same v w a (expression.Inside e d) r = ap₂ (of_two kind.Int kind.Bool) (kind_same v w a e r.0) (kind_same v w a d r.1)
  kind_same v w a (expression.FreeBefore pattern) r = refl
  kind_same v w a (expression.FreeAfter pattern) r = refl

  pub see_joined : (v w b : Visible) → SeeSame v w → SeeSame (v ++ b) (w ++ b)
  see_joined v w b a = record { same = λ n r. find_join v b n ∙ ap (λ z. option_or z (find b n)) (a.same n r) ∙ sym (find_join w b n) }

  found_joined : (w b : Visible) (n : List ℕ) (k : Kind) → find w n ≡ Some k → find (w ++ b) n ≡ Some k
  found_joined w b n k e = find_join w b n ∙ ap (λ z. option_or z (find b n)) e

  -- the pair at these variables
  pub data IsPair (w : Visible) : Pair → Type 0 where
    no_pair : IsPair w lacking
    handed_pair : find w s.m ≡ Some kind.Int → find w s.f ≡ Some kind.Int → IsPair w carried
    opened_pair : (p : Pair) → IsPair w p → IsPair w (opened_by s p)
    cleared_pair : IsPair w cleared

  mutual
    pub margin_kind : (w : Visible) (p : Pair) → IsPair w p → kind_at w (m_of s p) ≡ Some kind.Int
    margin_kind w lacking no_pair = refl
    margin_kind w carried (handed_pair a b) = a
    margin_kind w p2 (opened_pair p i) = ap₂ (of_two kind.Int kind.Int) (margin_kind w p i) (first_kind w p i)
    margin_kind w cleared cleared_pair = refl

    pub first_kind : (w : Visible) (p : Pair) → IsPair w p → kind_at w (f_of s p) ≡ Some kind.Int
    first_kind w lacking no_pair = refl
    first_kind w carried (handed_pair a b) = b
    first_kind w p2 (opened_pair p i) = refl
    first_kind w cleared cleared_pair = refl

  pub pair_joined : (w b : Visible) (p : Pair) → IsPair w p → IsPair (w ++ b) p
  pair_joined w b lacking no_pair = no_pair
  pair_joined w b carried (handed_pair a d) = handed_pair (found_joined w b s.m kind.Int a) (found_joined w b s.f kind.Int d)
  pair_joined w b p2 (opened_pair p i) = opened_pair p (pair_joined w b p i)
  pair_joined w b cleared cleared_pair = cleared_pair

  pub pair_cleared : (w : Visible) (p : Pair) → IsPair w (cleared_by p)
  pair_cleared w lacking = no_pair
  pair_cleared w carried = cleared_pair
  pair_cleared w (opened a b) = cleared_pair
  pair_cleared w cleared = cleared_pair

  -- a symbol under a pair, and what becomes of it
  pub record Sight (p : Pair) (v w : Visible) : Type 0 where
    pub seen : SeeSame v w
    pub pair : IsPair w p

  pub sight_joined : (p : Pair) (v w b : Visible) → Sight p v w → Sight p (v ++ b) (w ++ b)
  sight_joined p v w b a = record { seen = see_joined v w b a.seen; pair = pair_joined w b p a.pair }

  -- the column of an aligned list is visible
  abbrev pub HasColumn : Bool → Visible → Type 0
  HasColumn false w = Unit {0}
  HasColumn true w = find w s.c ≡ Some kind.Int
