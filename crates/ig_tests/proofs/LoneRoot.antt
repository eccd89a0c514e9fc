-- The core grammar of a root of one terminal is well kinded.
use Rattle.std.proofs.Common.{◌≡◌, ◌∙◌, ap, sym, subst, refl, ℕ, zero, suc, List, [], ◌∷◌, Some, None, slice_get, length, lit≤, lit<}
use Rattle.std.proofs.lemmas.Option.{same_Some}
use Rattle.ig_text.specs.declared.pattern.Pattern.{Pattern}
use Rattle.ig_text.specs.declared.tag.Tag.TheVariants.{Rule, Root}
use Rattle.ig_text.proofs.Lists.{contains_one}
use Rattle.ig_item.specs.Core.{IsAlternative, numbered}
use Rattle.ig_item.specs.Step.{Step, Term}
use Rattle.ig_item.specs.Visible.{names_at}
use Rattle.ig_item.specs.WellKinded.{IsWellKinded, NoneTwice, StepFits}
use Rattle.ig_item.specs.declared.core_grammar.Nonterminal.{Nonterminal}
use Rattle.ig_item.specs.declared.core_grammar.CoreAlt.{CoreAlt}
use Rattle.ig_tests.specs.LoneRoot.{IsUnlabelled, lone_alternative, lone_root}

module _ (name : List ℕ) (what : Pattern) (excluded : List Pattern) where
  abbrev terminal : Step
  terminal = Term what None excluded

  abbrev root : Nonterminal
  root = lone_root name terminal

  abbrev core : List Nonterminal
  core = root ∷ []

  step_is : (dot : ℕ) (step : Step) → slice_get (terminal ∷ []) dot ≡ Some step → (step ≡ terminal) × (dot ≡ 0)
  step_is zero step e = (sym (same_Some terminal step e), refl)
  step_is (suc dot) step e = cc

  alternative_is : (a : ℕ) (alternative : CoreAlt) → numbered (lone_alternative terminal ∷ []) a ≡ Some alternative →
      (alternative ≡ lone_alternative terminal) × (a ≡ 1)
  alternative_is zero alternative e = cc
  alternative_is (suc zero) alternative e = (sym (same_Some (lone_alternative terminal) alternative e), refl)
  alternative_is (suc (suc a)) alternative e = cc

  nonterminal_is : (n : ℕ) (nonterminal : Nonterminal) → slice_get core n ≡ Some nonterminal → (nonterminal ≡ root) × (n ≡ 0)
  nonterminal_is zero nonterminal e = (sym (same_Some root nonterminal e), refl)
  nonterminal_is (suc n) nonterminal e = cc

  its_alternative : (n a : ℕ) (nonterminal : Nonterminal) (alternative : CoreAlt) → IsAlternative core n a nonterminal alternative →
      (alternative ≡ lone_alternative terminal) × (a ≡ 1)
  its_alternative n a nonterminal alternative i =
      alternative_is a alternative
      (ap (λ (z : Nonterminal). numbered z.alternatives a) (sym (nonterminal_is n nonterminal i.there).0) ∙ i.has)

  no_names : (dot : ℕ) → names_at root (lone_alternative terminal) dot ≡ []
  no_names zero = refl
  no_names (suc zero) = refl
  no_names (suc (suc dot)) = refl

  none_twice : NoneTwice {X = List ℕ} []
  none_twice i j x at_i at_j = cc

  names_differ : (n a : ℕ) (nonterminal : Nonterminal) (alternative : CoreAlt) → IsAlternative core n a nonterminal alternative →
      (dot : ℕ) → NoneTwice (names_at nonterminal alternative dot)
  names_differ n a nonterminal alternative i dot =
      subst NoneTwice
      (sym (no_names dot) ∙ ap (λ (z : CoreAlt). names_at root z dot) (sym (its_alternative n a nonterminal alternative i).0) ∙
      ap (λ (z : Nonterminal). names_at z alternative dot) (sym (nonterminal_is n nonterminal i.there).0))
      none_twice

  no_rule : (n a : ℕ) (nonterminal : Nonterminal) (alternative : CoreAlt) → IsAlternative core n a nonterminal alternative →
      (m k : ℕ) → alternative.tag ≡ Rule m k → m ≡ n
  no_rule n a nonterminal alternative i m k e =
      let h : Root ≡ Rule m k = ap (λ (z : CoreAlt). z.tag) (sym (its_alternative n a nonterminal alternative i).0) ∙ e in cc

  terminal_fits : StepFits core root (lone_alternative terminal) 0 terminal
  terminal_fits = record { kinds = []; visible = refl; expressions = tt; call = tt }

  fits_at : (nonterminal : Nonterminal) (alternative : CoreAlt) (dot : ℕ) (step : Step) → nonterminal ≡ root →
      alternative ≡ lone_alternative terminal → dot ≡ 0 → step ≡ terminal → StepFits core nonterminal alternative dot step
  fits_at nonterminal alternative dot step n a d s =
      subst (λ (z : Nonterminal). StepFits core z alternative dot step) (sym n)
      (subst (λ (z : CoreAlt). StepFits core root z dot step) (sym a)
      (subst (λ (z : ℕ). StepFits core root (lone_alternative terminal) z step) (sym d)
      (subst (λ (z : Step). StepFits core root (lone_alternative terminal) 0 z) (sym s) terminal_fits)))

  steps_fit : (n a : ℕ) (nonterminal : Nonterminal) (alternative : CoreAlt) → IsAlternative core n a nonterminal alternative →
      (dot : ℕ) (step : Step) → slice_get alternative.steps dot ≡ Some step → StepFits core nonterminal alternative dot step
  steps_fit n a nonterminal alternative i dot step e =
      let is = (its_alternative n a nonterminal alternative i).0 in
      let at = step_is dot step (ap (λ (z : CoreAlt). slice_get z.steps dot) (sym is) ∙ e) in
      fits_at nonterminal alternative dot step (nonterminal_is n nonterminal i.there).0 is at.1 at.0

  of_terminal : IsWellKinded core
  of_terminal =
      record {
        root = record {
          nonterminal = root;
          alternative = lone_alternative terminal;
          first = refl;
          plain = refl;
          single = refl;
          unbound = refl;
        };
        parameters = λ nonterminal among.
            subst (λ (z : Nonterminal). length z.kinds ≡ length z.params) (sym (contains_one root nonterminal among)) refl;
        names = names_differ;
        tags = λ n a nonterminal alternative i b other j e.
            (its_alternative n b nonterminal other j).1 ∙ sym (its_alternative n a nonterminal alternative i).1;
        rules = no_rule;
        steps = steps_fit;
        few_dots = lit≤ tt;
        few_nonterminals = lit< tt;
      }

-- a root of one terminal without a label is well kinded
pub lone_root_is_well_kinded : (name : List ℕ) (step : Step) (alternatives : List CoreAlt) (all : List Nonterminal) →
    IsUnlabelled step → alternatives ≡ lone_alternative step ∷ [] →
    all ≡ record { name = name; params = []; kinds = []; alternatives = alternatives } ∷ [] → IsWellKinded all
lone_root_is_well_kinded name step alternatives all u a e =
    subst IsWellKinded (sym e)
    (subst (λ (z : List CoreAlt). IsWellKinded (record { name = name; params = []; kinds = []; alternatives = z } ∷ [])) (sym a)
    (subst (λ (z : Step). IsWellKinded (lone_root name z ∷ [])) (sym u.2) (of_terminal name u.0 u.1)))
