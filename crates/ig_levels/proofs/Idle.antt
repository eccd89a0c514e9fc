-- An alternative without levels has no operands and no tests.
use Rattle.std.proofs.Common.{◌≡◌, ℕ, Bool, true, false, List, [], ◌∷◌, ◌++◌, refl, ◌∙◌, ap}
use Rattle.std.proofs.Math.Bool.{and-false}
use Rattle.std.specs.Prelude.{◌&&◌, ◌||◌, not}
use Rattle.ig_text.specs.Tree.{Trees}
use Rattle.ig_grammar.specs.Symbol.{Symbol}
use Rattle.ig_grammar.specs.declared.grammar.Grammar.{Grammar}
use Rattle.ig_pass.specs.Added.{left_name, right_name}
use Rattle.ig_levels.specs.Levels.{lowered, symbols_in, test_of, Place, has_left, has_right, is_test, is_operand, only_tests}
use Rattle.ig_levels.proofs.WithBounds.{Bounds}
use Rattle.ig_levels.proofs.Takes.{Wanted}

-- in an alternative without levels there are no operands
pub idle_left : (p : Place) → p.active ≡ false → (first : Bool) (xs : List Symbol) → has_left p first xs ≡ false
idle_left p idle first [] = refl
idle_left p idle first (x ∷ xs) =
    (let here : (is_operand p.own x && (p.active && (first && not (only_tests xs)))) ≡ false = rw idle (and-false (is_operand p.own x)) in
    ap (λ z. z || has_left p (first && is_test x) xs) here) ∙
    idle_left p idle (first && is_test x) xs

pub idle_right : (p : Place) → p.active ≡ false → (first : Bool) (xs : List Symbol) → has_right p first xs ≡ false
idle_right p idle first [] = refl
idle_right p idle first (x ∷ xs) =
    (let here : (is_operand p.own x && (p.active && (not first && only_tests xs))) ≡ false = rw idle (and-false (is_operand p.own x)) in
    ap (λ z. z || has_right p (first && is_test x) xs) here) ∙
    idle_right p idle (first && is_test x) xs

pub idle_wanted : (g : Grammar) (p : Place) → p.active ≡ false → (b : Bounds) (first : Bool) (xs : List Symbol) (vs : Trees) → Wanted g p b first xs vs
idle_wanted g p idle b first xs vs =
    record {
      left = λ has t us split. let none : has_left p first xs ≡ false = idle_left p idle first xs in absurd (cc);
      right = λ has ts t split. let none : has_right p first xs ≡ false = idle_right p idle first xs in absurd (cc);
    }

pub no_tests : (levelled : List ℕ → Bool) (p : Place) → p.active ≡ false → (level : ℕ) (xs : List Symbol) → symbols_in levelled p level xs ≡ lowered levelled p true xs
no_tests levelled p idle level xs =
    λ z. test_of (idle_left p idle true xs z) level left_name ++ (test_of (idle_right p idle true xs z) level right_name ++ lowered levelled p true xs)
