-- The occurrences of an alternative, and its tests.
use Rattle.std.proofs.Common.{◌≡◌, ℕ, Bool, true, false, List, [], ◌∷◌, ◌++◌, refl, sym, ◌∙◌, ap, subst, cond, Some}
use Rattle.std.specs.Prelude.{◌&&◌, not, pos}
use Rattle.ig_text.proofs.Booleans.{first_true, rest_true}
use Rattle.ig_expr.specs.Expression.{Integer, Variable, Binary}
use Rattle.ig_expr.specs.Kinds.{of_two}
use Rattle.ig_expr.specs.declared.operator.Op.TheVariants.{GreaterEqual}
use Rattle.ig_expr.specs.declared.kind.Kind.TheVariants as kind
use Rattle.ig_grammar.specs.Symbol.{Symbol, gathered}
use Rattle.ig_grammar.specs.Visible.{Visible, kind_at, binds, inside_sequence}
use Rattle.ig_levels.specs.Levels.{no_pair, with_pair, lowered, Place, is_left, is_right, is_operand, only_tests, is_test, pair_at}
use Rattle.ig_pass.specs.Added.{left_name, right_name}
use Rattle.ig_levels.proofs.Kinded.{bound_kinds, InsertedKinds, here, behind, PairFits, Paired, no_pairs, next_pair}
use Rattle.ig_levels.proofs.WithBounds.{AllClear}
use Rattle.ig_levels.proofs.Kinding.{find, find_cons, find_next, appended, same_binds, inside_paired, paired_append, no_pair_fits}
use Rattle.ig_levels.proofs.Keeping.{left_variable, right_variable, number}

pub left_kind : {m : Bool} {v w : Visible} → InsertedKinds m v w → m ≡ true → find w left_name ≡ Some kind.Int
left_kind (here rest v e) is = ap (λ z. find z left_name) (e ∙ ap (λ z. bound_kinds z ++ rest) is) ∙ find_cons left_name kind.Int ((right_name, kind.Int) ∷ rest) left_name
left_kind (behind name k rest v source ins) is = find_next name k v left_name source.not_left ∙ left_kind ins is

pub right_kind : {m : Bool} {v w : Visible} → InsertedKinds m v w → m ≡ true → find w right_name ≡ Some kind.Int
right_kind (here rest v e) is =
    ap (λ z. find z right_name) (e ∙ ap (λ z. bound_kinds z ++ rest) is) ∙ find_cons left_name kind.Int ((right_name, kind.Int) ∷ rest) right_name ∙
    find_cons right_name kind.Int rest right_name
right_kind (behind name k rest v source ins) is = find_next name k v right_name source.not_right ∙ right_kind ins is

pub pair_fits : {m : Bool} {v w : Visible} → InsertedKinds m v w → (p : Place) → (p.active ≡ true → m ≡ true) → (first : Bool) (x : Symbol) (others : List Symbol) →
    PairFits w (pair_at p first x others)
pair_fits {w = w} ins p active_is first x others = go (is_left p first x others) refl (is_right p first x others) refl
  where
    go : (l : Bool) → is_left p first x others ≡ l → (r : Bool) → is_right p first x others ≡ r →
        PairFits w (cond l (record { left = Variable left_name; right = Integer (pos p.left) }) (cond r (record { left = Integer (pos p.right); right = Variable right_name }) no_pair))
    go true is r ris =
        let m = active_is (first_true p.active (first && not (only_tests others)) (rest_true (is_operand p.own x) (p.active && (first && not (only_tests others))) is)) in
        record { left_kind = left_kind ins m; right_kind = refl; own = record { left = left_variable; right = number p.left } }
    go false is true ris =
        let m = active_is (first_true p.active (not first && only_tests others) (rest_true (is_operand p.own x) (p.active && (not first && only_tests others)) ris)) in
        record { left_kind = refl; right_kind = right_kind ins m; own = record { left = number p.right; right = right_variable } }
    go false is false ris = no_pair_fits w

module _ (levelled : List ℕ → Bool) where
  pub lowered_paired : (xs : List Symbol) (p : Place) (first : Bool) {m : Bool} (v w : Visible) → InsertedKinds m v w → (p.active ≡ true → m ≡ true) → AllClear xs →
      Paired levelled m (inside_sequence v (gathered xs)) (inside_sequence w (gathered (lowered levelled p first xs)))
  lowered_paired [] p first v w ins active_is c = no_pairs
  lowered_paired (x ∷ xs) p first {m = m} v w ins active_is c =
      let pair = pair_at p first x xs in
      let fits = pair_fits ins p active_is first x xs in
      let after : InsertedKinds m (v ++ binds v x) (w ++ binds w (with_pair levelled pair x)) =
      subst (λ z. InsertedKinds m (v ++ binds v x) (w ++ z)) (sym (same_binds levelled x pair v w ins c.0)) (appended ins (binds v x)) in
      paired_append levelled (next_pair v w x pair _ _ ins fits c.0 (inside_paired levelled x pair v w ins fits c.0))
      (lowered_paired xs p (first && is_test x) (v ++ binds v x) (w ++ binds w (with_pair levelled pair x)) after active_is c.1)

-- a test of a bound is a truth value
pub test_kind : (w : Visible) (name : List ℕ) (n : ℕ) → find w name ≡ Some kind.Int → kind_at w (Binary GreaterEqual (Integer (pos n)) (Variable name)) ≡ Some kind.Bool
test_kind w name n is_int = ap (of_two kind.Int kind.Bool (Some kind.Int)) is_int
