-- The core grammar of `S = S S | "a"` is well kinded, and plain.
use Rattle.std.proofs.Common.{◌≡◌, ℕ, zero, suc, List, [], Some, refl, sym, ap, ◌∙◌, subst, lit<, lit≤, length}
use Rattle.std.specs.Prelude.{slice_get}
use Rattle.std.specs.List.{flat_map}
use Rattle.std.proofs.lemmas.Option.{same_Some}
use Rattle.ig_text.specs.declared.tag.Tag.TheVariants.{Rule}
use Rattle.ig_text.proofs.Lists.{at_from_contains}
use Rattle.ig_item.specs.Step.{Step, names_of}
use Rattle.ig_item.specs.Core.{IsAlternative, numbered}
use Rattle.ig_item.specs.WellKinded.{NoneTwice, OfEach, StepFits, IsWellKinded}
use Rattle.ig_item.specs.Examples.{plain_call, root, root_alternative}
use Rattle.ig_item.specs.declared.core_grammar.Nonterminal.{Nonterminal}
use Rattle.ig_item.specs.declared.core_grammar.CoreAlt.{CoreAlt}
use Rattle.ig_plain.specs.Laws.{IsPlain}
use Rattle.ig_plain.specs.Examples.{both, letter, start, doubled}
use Rattle.ig_plain.proofs.PlainItems.{no_names}

module _ (P : ℕ → ℕ → Nonterminal → CoreAlt → Type 0) where
  -- the first nonterminal has one alternative, the other two
  module _ (of_root : P 0 1 root root_alternative) (of_both : P 1 1 start both) (of_letter : P 1 2 start letter) where
    in_root : (a : ℕ) (alternative : CoreAlt) → numbered root.alternatives a ≡ Some alternative → P 0 a root alternative
    in_root zero alternative e = cc
    in_root (suc zero) alternative e = subst (λ (x : CoreAlt). P 0 1 root x) (same_Some root_alternative alternative e) of_root
    in_root (suc (suc k)) alternative e = cc

    in_start : (a : ℕ) (alternative : CoreAlt) → numbered start.alternatives a ≡ Some alternative → P 1 a start alternative
    in_start zero alternative e = cc
    in_start (suc zero) alternative e = subst (λ (x : CoreAlt). P 1 1 start x) (same_Some both alternative e) of_both
    in_start (suc (suc zero)) alternative e = subst (λ (x : CoreAlt). P 1 2 start x) (same_Some letter alternative e) of_letter
    in_start (suc (suc (suc k))) alternative e = cc

    in_both : (n a : ℕ) (nonterminal : Nonterminal) (alternative : CoreAlt) → slice_get doubled n ≡ Some nonterminal →
        numbered nonterminal.alternatives a ≡ Some alternative → P n a nonterminal alternative
    in_both zero a nonterminal alternative there has =
        let same = same_Some root nonterminal there in
        let e = subst (λ (x : Nonterminal). numbered x.alternatives a ≡ Some alternative) (sym same) has in
        subst (λ (x : Nonterminal). P 0 a x alternative) same (in_root a alternative e)
    in_both (suc zero) a nonterminal alternative there has =
        let same = same_Some start nonterminal there in
        let e = subst (λ (x : Nonterminal). numbered x.alternatives a ≡ Some alternative) (sym same) has in
        subst (λ (x : Nonterminal). P 1 a x alternative) same (in_start a alternative e)
    in_both (suc (suc k)) a nonterminal alternative there has = cc

    of_each : OfEach doubled P
    of_each n a nonterminal alternative is = in_both n a nonterminal alternative is.there is.has

abbrev HasNoParameters : Nonterminal → Type 0
HasNoParameters nonterminal = (nonterminal.params ≡ []) × (nonterminal.kinds ≡ [])

has_no_parameters : (n : ℕ) (nonterminal : Nonterminal) → slice_get doubled n ≡ Some nonterminal → HasNoParameters nonterminal
has_no_parameters zero nonterminal e = subst (λ (x : Nonterminal). HasNoParameters x) (same_Some root nonterminal e) (refl, refl)
has_no_parameters (suc zero) nonterminal e = subst (λ (x : Nonterminal). HasNoParameters x) (same_Some start nonterminal e) (refl, refl)
has_no_parameters (suc (suc k)) nonterminal e = cc

pub doubled_is_plain : IsPlain doubled
doubled_is_plain =
    record {
      parameters = λ nonterminal c. let at = at_from_contains doubled nonterminal c in (has_no_parameters at.0 nonterminal at.1).0;
      steps = of_each (λ n a nonterminal alternative. flat_map names_of alternative.steps ≡ []) refl refl refl;
    }

abbrev Tags : ℕ → ℕ → Nonterminal → CoreAlt → Type 0
Tags n a nonterminal alternative =
    (b : ℕ) (other : CoreAlt) → IsAlternative doubled n b nonterminal other → other.tag ≡ alternative.tag → b ≡ a

root_tag : (b : ℕ) (other : CoreAlt) → numbered root.alternatives b ≡ Some other → b ≡ 1
root_tag zero other e = cc
root_tag (suc zero) other e = refl
root_tag (suc (suc k)) other e = cc

start_tag : (a : ℕ) (alternative : CoreAlt) → numbered start.alternatives a ≡ Some alternative → alternative.tag ≡ Rule 1 a
start_tag zero alternative e = cc
start_tag (suc zero) alternative e = let same = same_Some both alternative e in cc
start_tag (suc (suc zero)) alternative e = let same = same_Some letter alternative e in cc
start_tag (suc (suc (suc k))) alternative e = cc

same_rule : (a b : ℕ) → Rule 1 b ≡ Rule 1 a → b ≡ a
same_rule a b e = cc

abbrev StepsFit : ℕ → ℕ → Nonterminal → CoreAlt → Type 0
StepsFit n a nonterminal alternative =
    (dot : ℕ) (step : Step) → slice_get alternative.steps dot ≡ Some step → StepFits doubled nonterminal alternative dot step

call_fits : StepFits doubled root root_alternative 0 (plain_call 1 [])
call_fits = record { kinds = []; visible = refl; expressions = tt; call = (start, refl, refl) }

root_fits : StepsFit 0 1 root root_alternative
root_fits zero step e = subst (λ (s : Step). StepFits doubled root root_alternative 0 s) (same_Some (plain_call 1 []) step e) call_fits
root_fits (suc dot) step e = cc

both_fit : StepsFit 1 1 start both
both_fit zero step e =
    subst (λ (s : Step). StepFits doubled start both 0 s) (same_Some (plain_call 1 []) step e)
    (record { kinds = []; visible = refl; expressions = tt; call = (start, refl, refl) })
both_fit (suc zero) step e =
    subst (λ (s : Step). StepFits doubled start both 1 s) (same_Some (plain_call 1 []) step e)
    (record { kinds = []; visible = refl; expressions = tt; call = (start, refl, refl) })
both_fit (suc (suc dot)) step e = cc

letter_fits : StepsFit 1 2 start letter
letter_fits zero step e =
    subst (λ (s : Step). StepFits doubled start letter 0 s) (same_Some _ step e)
    (record { kinds = []; visible = refl; expressions = tt; call = tt })
letter_fits (suc dot) step e = cc

no_twice : {X : Type 0} → NoneTwice {X = X} []
no_twice i j x at_i at_j = cc

pub doubled_is_well_kinded : IsWellKinded doubled
doubled_is_well_kinded =
    record {
      root =
          record {
            nonterminal = root;
            alternative = root_alternative;
            first = refl;
            plain = refl;
            single = refl;
            unbound = refl;
          };
      parameters =
          λ nonterminal c.
          let at = at_from_contains doubled nonterminal c in
          let none = has_no_parameters at.0 nonterminal at.1 in ap length none.1 ∙ sym (ap length none.0);
      names =
          λ n a nonterminal alternative is dot.
          subst (λ (names : List (List ℕ)). NoneTwice names)
          (sym (no_names doubled doubled_is_plain n a nonterminal alternative is dot)) no_twice;
      tags =
          of_each Tags (λ b other is e. root_tag b other is.has)
          (λ b other is e. same_rule 1 b (sym (start_tag b other is.has) ∙ e))
          (λ b other is e. same_rule 2 b (sym (start_tag b other is.has) ∙ e));
      rules =
          of_each (λ n a nonterminal alternative. (m k : ℕ) → alternative.tag ≡ Rule m k → m ≡ n) (λ m k e. cc)
          (λ m k e. let h : 1 ≡ m = cc in sym h) (λ m k e. let h : 1 ≡ m = cc in sym h);
      steps = of_each StepsFit root_fits both_fit letter_fits;
      few_dots = lit≤ tt;
      few_nonterminals = lit< tt;
    }
