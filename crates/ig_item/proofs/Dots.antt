-- What is visible behind a step, and that the numbers of an alternative and a dot tell which it is.
use Rattle.std.proofs.Common.{◌≡◌, ℕ, zero, suc, List, [], ◌∷◌, ◌++◌, Option, Some, None, take, refl, sym, ap, ◌∙◌, append_assoc}
use Rattle.std.specs.Prelude.{slice_get, option_and_then}
use Rattle.std.specs.List.{flat_map}
use Rattle.std.proofs.lemmas.Option.{same_Some}
use Rattle.std.proofs.lemmas.List.{append-nil}
use Rattle.std.proofs.lemmas.Grind.{flat_map-append}
use Rattle.ig_text.proofs.Lists.{take_step}
use Rattle.ig_expr.specs.declared.kind.Kind.{Kind}
use Rattle.ig_item.specs.Step.{Step, names_of}
use Rattle.ig_item.specs.Core.{numbered}
use Rattle.ig_item.specs.Visible.{names_at, kinds_of, kinds_behind}
use Rattle.ig_item.specs.Laws.{AlternativesAreOne, NamesGrow, StandsBeforeOne}
use Rattle.ig_item.specs.declared.core_grammar.Nonterminal.{Nonterminal}
use Rattle.ig_item.specs.declared.core_grammar.CoreAlt.{CoreAlt}

-- the names that are visible behind a step
pub names_step : NamesGrow
names_step nonterminal alternative dot step at =
    let before = flat_map names_of (take dot alternative.steps) in
    ap (λ (s : List Step). nonterminal.params ++ flat_map names_of s) (take_step alternative.steps dot step at) ∙
    ap (λ (s : List (List ℕ)). nonterminal.params ++ s) (flat_map-append names_of (take dot alternative.steps) (step ∷ [])) ∙
    ap (λ (s : List (List ℕ)). nonterminal.params ++ (before ++ s)) (append-nil (names_of step)) ∙
    sym (append_assoc nonterminal.params before (names_of step))

-- where the first kinds have others behind them, so have the second
goes_on : {f g : List Kind → Option (List Kind)} (o : Option (List Kind)) (ks ls : List Kind) →
    ((b : List Kind) → f b ≡ Some ks → g b ≡ Some ls) → option_and_then f o ≡ Some ks → option_and_then g o ≡ Some ls
goes_on None ks ls h e = cc
goes_on (Some b) ks ls h e = h b e

-- the kinds that are visible behind a step
pub kinds_step : (names : List (List ℕ)) (kinds : List Kind) (steps : List Step) (dot : ℕ) (step : Step)
    (here bound : List Kind) → slice_get steps dot ≡ Some step → kinds_behind names kinds (take dot steps) ≡ Some here →
    kinds_of (names ++ flat_map names_of (take dot steps)) here step ≡ Some bound →
    kinds_behind names kinds (take (suc dot) steps) ≡ Some (here ++ bound)
kinds_step names kinds [] dot step here bound at visible binds = cc
kinds_step names kinds (s ∷ steps) zero step here bound at visible binds =
    let known : kinds ≡ here = same_Some kinds here visible in
    let same : s ≡ step = same_Some s step at in
    let given : kinds_of names kinds s ≡ Some bound =
    ap (λ (ns : List (List ℕ)). kinds_of ns kinds s) (sym (append-nil names)) ∙
    ap (λ (ks : List Kind). kinds_of (names ++ []) ks s) known ∙ ap (kinds_of (names ++ []) here) same ∙ binds in
    ap (option_and_then (λ (b : List Kind). Some (kinds ++ b))) given ∙ ap (λ (ks : List Kind). Some (ks ++ bound)) known
kinds_step names kinds (s ∷ steps) (suc dot) step here bound at visible binds =
    goes_on (kinds_of names kinds s) here (here ++ bound)
    (λ b v.
    kinds_step (names ++ names_of s) (kinds ++ b) steps dot step here bound at v
    (ap (λ (ns : List (List ℕ)). kinds_of ns here step)
    (append_assoc names (names_of s) (flat_map names_of (take dot steps))) ∙ binds))
    visible

-- two alternatives of the same numbers are one
pub same_alternative : AlternativesAreOne
same_alternative core n a nonterminal other alternative second i j =
    let one : nonterminal ≡ other = same_Some nonterminal other (sym i.there ∙ j.there) in
    record {
      nonterminals = one;
      alternatives =
          same_Some alternative second
          (sym i.has ∙ ap (λ (n : Nonterminal). numbered n.alternatives a) one ∙ j.has);
    }

-- an item stands before one step, where the same names are visible
pub stands_once : StandsBeforeOne
stands_once core it names others step next s t =
    let same = same_alternative core it.instance.nonterminal it.alternative s.nonterminal t.nonterminal s.alternative t.alternative s.has t.has in (
      s.visible ∙ (λ i. names_at (same.nonterminals i) (same.alternatives i) it.dot) ∙ sym t.visible,
      same_Some step next (sym s.next ∙ ap (λ (a : CoreAlt). slice_get a.steps it.dot) same.alternatives ∙ t.next),
    )

-- an alternative that stands alone has number 1
pub alone : (alternative x : CoreAlt) (a : ℕ) → numbered (alternative ∷ []) a ≡ Some x → a ≡ 1
alone alternative x zero e = cc
alone alternative x (suc zero) e = refl
alone alternative x (suc (suc k)) e = cc
