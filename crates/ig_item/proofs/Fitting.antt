-- Well-kinded steps, told one after the other.
use Rattle.std.proofs.Common.{◌≡◌, ℕ, zero, suc, ◌+◌, List, [], ◌∷◌, ◌++◌, Some, take, drop, refl, sym, ap, ◌∙◌, subst, append_assoc, arith, Contains}
use Rattle.std.specs.Prelude.{slice_get, option_and_then}
use Rattle.std.specs.List.{flat_map}
use Rattle.std.proofs.lemmas.Option.{same_Some}
use Rattle.std.proofs.lemmas.List.{append-nil}
use Rattle.std.proofs.lemmas.Grind.{flat_map-append}
use Rattle.ig_text.proofs.Lists.{at_from_contains, left_at, split_at}
use Rattle.ig_expr.specs.declared.kind.Kind.{Kind}
use Rattle.ig_item.specs.Step.{Step, names_of}
use Rattle.ig_item.specs.Core.{numbered}
use Rattle.ig_item.specs.Visible.{names_at, kinds_behind}
use Rattle.ig_item.specs.Fitting.{AreFit, no_steps, next_step}
use Rattle.ig_item.specs.Laws.{StepsFit, NamesDiffer}
use Rattle.ig_item.specs.WellKinded.{NoneTwice, OfEach, ExpressionsFit, CallFits}
use Rattle.ig_item.specs.declared.core_grammar.Nonterminal.{Nonterminal}
use Rattle.ig_item.specs.declared.core_grammar.CoreAlt.{CoreAlt}

-- what is visible behind some steps, and that the step there fits it
pub record FitsBehind (core : List Nonterminal) (names : List (List ℕ)) (kinds : List Kind) (before : List Step)
    (step : Step) : Type 0 where
  pub here : List Kind
  pub visible : kinds_behind names kinds before ≡ Some here
  pub expressions : ExpressionsFit (names ++ flat_map names_of before) here step
  pub call : CallFits core (names ++ flat_map names_of before) here step

fits_behind : (core : List Nonterminal) {names : List (List ℕ)} {kinds : List Kind} {steps : List Step} →
    AreFit core names kinds steps → (dot : ℕ) (step : Step) → slice_get steps dot ≡ Some step →
    FitsBehind core names kinds (take dot steps) step
fits_behind core (no_steps names kinds) dot step at = cc
fits_behind core (next_step names kinds more s steps bound expressions call others) zero step at =
    let same : s ≡ step = same_Some s step at in
    let all : names ≡ names ++ [] = sym (append-nil names) in
    record {
      here = kinds;
      visible = refl;
      expressions =
          subst (λ (x : Step). ExpressionsFit (names ++ []) kinds x) same
          (subst (λ (ns : List (List ℕ)). ExpressionsFit ns kinds s) all expressions);
      call =
          subst (λ (x : Step). CallFits core (names ++ []) kinds x) same
          (subst (λ (ns : List (List ℕ)). CallFits core ns kinds s) all call);
    }
fits_behind core (next_step names kinds more s steps bound expressions call others) (suc dot) step at =
    let h = fits_behind core others dot step at in
    let all = append_assoc names (names_of s) (flat_map names_of (take dot steps)) in
    record {
      here = h.here;
      visible =
          ap
          (option_and_then (λ (b : List Kind). kinds_behind (names ++ names_of s) (kinds ++ b) (take dot steps)))
          bound ∙ h.visible;
      expressions = subst (λ (ns : List (List ℕ)). ExpressionsFit ns h.here step) all h.expressions;
      call = subst (λ (ns : List (List ℕ)). CallFits core ns h.here step) all h.call;
    }

-- so the step behind each dot fits
pub each_fits : StepsFit
each_fits core nonterminal alternative fit dot step at =
    let h = fits_behind core fit dot step at in
    record { kinds = h.here; visible = h.visible; expressions = h.expressions; call = h.call }

-- where the names that are visible behind the last step differ, so do those at each dot
pub differ_at : NamesDiffer
differ_at nonterminal alternative differ dot i j x at_i at_j =
    let before = names_at nonterminal alternative dot in
    let behind = flat_map names_of (drop dot alternative.steps) in
    let all : before ++ behind ≡ nonterminal.params ++ flat_map names_of alternative.steps =
    append_assoc nonterminal.params (flat_map names_of (take dot alternative.steps)) behind ∙
    ap (λ (ns : List (List ℕ)). nonterminal.params ++ ns)
    (sym (flat_map-append names_of (take dot alternative.steps) (drop dot alternative.steps)) ∙
    ap (flat_map names_of) (sym (split_at dot alternative.steps))) in
    let whole = subst (λ (ns : List (List ℕ)). NoneTwice ns) (sym all) differ in
    whole i j x (left_at before behind i x at_i) (left_at before behind j x at_j)

-- a fact of each alternative of a nonterminal, from number a on
abbrev pub OfAlternatives : (ℕ → ℕ → Nonterminal → CoreAlt → Type 0) → ℕ → Nonterminal → ℕ → List CoreAlt → Type 0
OfAlternatives P n nonterminal a [] = Unit {0}
OfAlternatives P n nonterminal a (alternative ∷ others) =
    P n a nonterminal alternative × OfAlternatives P n nonterminal (suc a) others

-- a fact of each alternative of the nonterminals from number n on
abbrev pub OfNonterminals : (ℕ → ℕ → Nonterminal → CoreAlt → Type 0) → ℕ → List Nonterminal → Type 0
OfNonterminals P n [] = Unit {0}
OfNonterminals P n (nonterminal ∷ others) =
    OfAlternatives P n nonterminal 1 nonterminal.alternatives × OfNonterminals P (suc n) others

of_alternative : (P : ℕ → ℕ → Nonterminal → CoreAlt → Type 0) (n : ℕ) (nonterminal : Nonterminal) (a : ℕ)
    (members : List CoreAlt) → OfAlternatives P n nonterminal a members → (i : ℕ) (x : CoreAlt) →
    slice_get members i ≡ Some x → (b : ℕ) → a + i ≡ b → P n b nonterminal x
of_alternative P n nonterminal a [] h i x at b is = cc
of_alternative P n nonterminal a (y ∷ members) h zero x at b is =
    let same : a ≡ b = omega (arith, is) in
    subst (λ (k : ℕ). P n k nonterminal x) same (subst (λ (z : CoreAlt). P n a nonterminal z) (same_Some y x at) h.0)
of_alternative P n nonterminal a (y ∷ members) h (suc i) x at b is =
    of_alternative P n nonterminal (suc a) members h.1 i x at b (omega (arith, is))

of_nonterminal : (P : ℕ → ℕ → Nonterminal → CoreAlt → Type 0) (n : ℕ) (core : List Nonterminal) → OfNonterminals P n core →
    (i : ℕ) (x : Nonterminal) → slice_get core i ≡ Some x → (m : ℕ) → n + i ≡ m →
    OfAlternatives P m x 1 x.alternatives
of_nonterminal P n [] h i x at m is = cc
of_nonterminal P n (y ∷ core) h zero x at m is =
    let same : n ≡ m = omega (arith, is) in
    subst (λ (k : ℕ). OfAlternatives P k x 1 x.alternatives) same
    (subst (λ (z : Nonterminal). OfAlternatives P n z 1 z.alternatives) (same_Some y x at) h.0)
of_nonterminal P n (y ∷ core) h (suc i) x at m is = of_nonterminal P (suc n) core h.1 i x at m (omega (arith, is))

numbered_of : (P : ℕ → ℕ → Nonterminal → CoreAlt → Type 0) (n : ℕ) (nonterminal : Nonterminal) →
    OfAlternatives P n nonterminal 1 nonterminal.alternatives → (a : ℕ) (x : CoreAlt) →
    numbered nonterminal.alternatives a ≡ Some x → P n a nonterminal x
numbered_of P n nonterminal h zero x at = cc
numbered_of P n nonterminal h (suc k) x at =
    of_alternative P n nonterminal 1 nonterminal.alternatives h k x at (suc k) (omega arith)

-- what holds in all lists holds of each alternative
pub of_each : (P : ℕ → ℕ → Nonterminal → CoreAlt → Type 0) (core : List Nonterminal) → OfNonterminals P 0 core → OfEach core P
of_each P core h n a nonterminal alternative is =
    numbered_of P n nonterminal (of_nonterminal P 0 core h n nonterminal is.there n (omega arith)) a alternative is.has

-- a fact of each member of a list
abbrev pub OfMembers : {X : Type 0} → (X → Type 0) → List X → Type 0
OfMembers P [] = Unit {0}
OfMembers P (x ∷ xs) = P x × OfMembers P xs

at_place : {X : Type 0} (P : X → Type 0) (xs : List X) → OfMembers P xs → (k : ℕ) (x : X) → slice_get xs k ≡ Some x → P x
at_place P [] h k x at = cc
at_place P (y ∷ xs) h zero x at = subst P (same_Some y x at) h.0
at_place P (y ∷ xs) h (suc k) x at = at_place P xs h.1 k x at

pub of_members : {X : Type 0} (P : X → Type 0) (xs : List X) → OfMembers P xs → (x : X) → Contains xs x → P x
of_members P xs h x c = let at = at_from_contains xs x c in at_place P xs h at.0 x at.1
