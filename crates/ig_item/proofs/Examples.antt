-- The core grammars of two small grammars are well kinded.
use Rattle.std.proofs.Common.{◌≡◌, ℕ, zero, suc, List, [], ◌∷◌, ◌++◌, Some, length, refl, sym, ap, ◌∙◌, arith, lit<, lit≤, get_or}
use Rattle.std.specs.Prelude.{slice_get, codes}
use Rattle.std.proofs.lemmas.Option.{same_Some}
use Rattle.ig_text.specs.declared.tag.Tag.TheVariants.{Rule}
use Rattle.ig_text.proofs.Differing.{one_differs, two_differ}
use Rattle.ig_expr.specs.declared.kind.Kind.{Kind}
use Rattle.ig_expr.specs.declared.kind.Kind.TheVariants.{Span}
use Rattle.ig_item.specs.Step.{Step, names_of}
use Rattle.ig_item.specs.Core.{IsAlternative, numbered}
use Rattle.ig_item.specs.Visible.{names_at, kinds_of}
use Rattle.ig_item.specs.WellKinded.{NoneTwice, HasRoot, ExpressionsFit, CallFits, StepFits, IsWellKinded}
use Rattle.ig_item.specs.Examples.{one_letter, countdown, root, root_alternative, start, letter, counting, counted, at_zero, letter_and_less}
use Rattle.ig_item.specs.declared.core_grammar.Nonterminal.{Nonterminal}
use Rattle.ig_item.specs.declared.core_grammar.CoreAlt.{CoreAlt}
use Rattle.ig_item.specs.Fitting.{AreFit, no_steps, next_step}
use Rattle.ig_item.proofs.Dots.{alone}
use Rattle.ig_item.proofs.Fitting.{each_fits, differ_at, of_each, of_members}

pub no_names : {A : Type 0} → NoneTwice {X = A} []
no_names i j x at_i at_j = cc

pub root_fits : (core : List Nonterminal) (others : List Nonterminal) → core ≡ root ∷ others → HasRoot core
root_fits core others e =
    record {
      nonterminal = root;
      alternative = _;
      first = ap (λ (c : List Nonterminal). slice_get c 0) e;
      plain = refl;
      single = refl;
      unbound = refl;
    }

abbrev Numbers : Nonterminal → Type 0
Numbers n = length n.kinds ≡ length n.params

abbrev Differ : ℕ → ℕ → Nonterminal → CoreAlt → Type 0
Differ n a nonterminal alternative = (dot : ℕ) → NoneTwice (names_at nonterminal alternative dot)

abbrev Tags : List Nonterminal → ℕ → ℕ → Nonterminal → CoreAlt → Type 0
Tags core n a nonterminal alternative =
    (b : ℕ) (other : CoreAlt) → IsAlternative core n b nonterminal other → other.tag ≡ alternative.tag → b ≡ a

abbrev Rules : ℕ → ℕ → Nonterminal → CoreAlt → Type 0
Rules n a nonterminal alternative = (m k : ℕ) → alternative.tag ≡ Rule m k → m ≡ n

abbrev StepsFit : List Nonterminal → ℕ → ℕ → Nonterminal → CoreAlt → Type 0
StepsFit core n a nonterminal alternative =
    (dot : ℕ) (step : Step) → slice_get alternative.steps dot ≡ Some step → StepFits core nonterminal alternative dot step

-- a step, whatever stands behind it
step_then : (core : List Nonterminal) (names : List (List ℕ)) (kinds : List Kind) (more : List Kind) (step : Step)
    (steps : List Step) → kinds_of names kinds step ≡ Some more → ExpressionsFit names kinds step →
    CallFits core names kinds step → AreFit core (names ++ names_of step) (kinds ++ more) steps →
    AreFit core names kinds (step ∷ steps)
step_then core names kinds more step steps b e c others = next_step names kinds more step steps b e c others

pub one_letter_is_well_kinded : IsWellKinded one_letter
one_letter_is_well_kinded =
    record {
      root = root_fits one_letter _ refl;
      parameters = of_members Numbers one_letter (refl, (refl, tt));
      names =
          of_each Differ one_letter
          ((differ_at root root_alternative no_names, tt), ((differ_at (start letter) letter no_names, tt), tt));
      tags =
          of_each (Tags one_letter) one_letter (
            ((λ b other i e. alone _ other b i.has), tt),
            (((λ b other i e. alone _ other b i.has), tt), tt),
          );
      rules = of_each Rules one_letter (((λ m k e. cc), tt), (((λ m k e. let h : 1 ≡ m = cc in sym h), tt), tt));
      steps =
          of_each (StepsFit one_letter) one_letter (
            (each_fits one_letter _ _ (step_then _ _ _ [] _ _ refl tt (_, refl, refl) (no_steps _ _)), tt),
            ((each_fits one_letter _ _ (step_then _ _ _ [] _ _ refl tt tt (no_steps _ _)), tt), tt),
          );
      few_dots = lit≤ tt;
      few_nonterminals = lit< tt;
    }

two_tags : (x y other : CoreAlt) (b : ℕ) → numbered (x ∷ y ∷ []) b ≡ Some other → (y.tag ≡ x.tag → ⊥) → other.tag ≡ x.tag →
    b ≡ 1
two_tags x y other zero at ne e = cc
two_tags x y other (suc zero) at ne e = refl
two_tags x y other (suc (suc zero)) at ne e =
    let same : y ≡ other = same_Some y other at in absurd (ne (ap (λ (z : CoreAlt). z.tag) same ∙ e))
two_tags x y other (suc (suc (suc k))) at ne e = cc

two_tags_back : (x y other : CoreAlt) (b : ℕ) → numbered (x ∷ y ∷ []) b ≡ Some other → (x.tag ≡ y.tag → ⊥) →
    other.tag ≡ y.tag → b ≡ 2
two_tags_back x y other zero at ne e = cc
two_tags_back x y other (suc zero) at ne e =
    let same : x ≡ other = same_Some x other at in absurd (ne (ap (λ (z : CoreAlt). z.tag) same ∙ e))
two_tags_back x y other (suc (suc zero)) at ne e = refl
two_tags_back x y other (suc (suc (suc k))) at ne e = cc

n_is_not_x : codes "n" ≡ codes "x" → ⊥
n_is_not_x e = let h : 110 ≡ 120 = ap (λ (word : List ℕ). get_or word 0 0) e in omega (arith, h)

rules_of : (n k : ℕ) (m l : ℕ) → Rule n k ≡ Rule m l → m ≡ n
rules_of n k m l e = let h : n ≡ m = cc in sym h

pub countdown_is_well_kinded : IsWellKinded countdown
countdown_is_well_kinded =
    record {
      root = root_fits countdown _ refl;
      parameters = of_members Numbers countdown (refl, (refl, (refl, tt)));
      names =
          of_each Differ countdown (
            (differ_at root root_alternative no_names, tt),
            (
              (differ_at (start counting) counting no_names, tt),
              (
                (
                  differ_at counted at_zero (one_differs _),
                  (differ_at counted letter_and_less (two_differ (codes "n") (codes "x") n_is_not_x), tt),
                ),
                tt,
              ),
            ),
          );
      tags =
          of_each (Tags countdown) countdown (
            ((λ b other i e. alone _ other b i.has), tt),
            (
              ((λ b other i e. alone _ other b i.has), tt),
              (
                (
                  (λ b other i e. two_tags at_zero letter_and_less other b i.has (λ h. cc) e),
                  ((λ b other i e. two_tags_back at_zero letter_and_less other b i.has (λ h. cc) e), tt),
                ),
                tt,
              ),
            ),
          );
      rules =
          of_each Rules countdown (
            ((λ m k e. cc), tt),
            ((rules_of 1 1, tt), ((rules_of 2 1, (rules_of 2 2, tt)), tt)),
          );
      steps =
          of_each (StepsFit countdown) countdown (
            (each_fits countdown root root_alternative (step_then _ _ _ [] _ _ refl tt (_, refl, refl) (no_steps _ _)), tt),
            (
              (each_fits countdown (start counting) counting (step_then _ _ _ [] _ _ refl tt (_, refl, refl) (no_steps _ _)), tt),
              (
                (
                  each_fits countdown counted at_zero (step_then _ _ _ [] _ _ refl refl tt (no_steps _ _)),
                  (
                    each_fits countdown counted letter_and_less
                        (step_then _ _ _ (Span ∷ []) _ _ refl tt tt (step_then _ _ _ [] _ _ refl tt (_, refl, refl) (no_steps _ _))),
                    tt,
                  ),
                ),
                tt,
              ),
            ),
          );
      few_dots = lit≤ tt;
      few_nonterminals = lit< tt;
    }
