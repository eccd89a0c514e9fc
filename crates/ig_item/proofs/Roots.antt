-- The first items of an instance, and the complete items of the root.
use Rattle.std.proofs.Common.{◌≡◌, ℕ, suc, List, [], ◌∷◌, ◌++◌, Some, length, take, refl, sym, ap, ◌∙◌, subst, arith, take_all, le_of_eq, slice_get}
use Rattle.std.specs.List.{flat_map}
use Rattle.std.proofs.lemmas.Option.{same_Some}
use Rattle.std.proofs.lemmas.List.{nil_from_length}
use Rattle.ig_text.specs.Input.{Input}
use Rattle.ig_item.specs.Step.{names_of}
use Rattle.ig_item.specs.Core.{IsAlternative, numbered}
use Rattle.ig_item.specs.Visible.{names_at}
use Rattle.ig_item.specs.WellKinded.{IsWellKinded, HasRoot}
use Rattle.ig_item.specs.Items as items
use Rattle.ig_item.specs.Items.{Item, first, root_instance, Follows, Reachable, IsComplete}
use Rattle.ig_item.specs.Laws.{AlternativesBegin, CompleteRootsAreOne, EnvironmentsFit, EnvironmentFits}
use Rattle.ig_item.specs.declared.core_grammar.Nonterminal.{Nonterminal}
use Rattle.ig_item.specs.declared.core_grammar.CoreAlt.{CoreAlt}
use Rattle.ig_item.specs.declared.items.Instance.{Instance}
use Rattle.ig_item.proofs.Dots.{same_alternative, alone}
use Rattle.ig_item.proofs.Reachability.{reach, follows_reachable}
use Rattle.ig_item.proofs.Coming.{root_first}

module _ (core : List Nonterminal) (text : Input) (w : IsWellKinded core) where
  -- x is the first item of alternative a
  beside : (instance : Instance) (a b : ℕ) (nonterminal : Nonterminal) (alternative : CoreAlt) →
      IsAlternative core instance.nonterminal b nonterminal alternative → (x : Item) →
      Follows core text (Reachable core text) x → x ≡ first instance a → Reachable core text (first instance b)
  beside instance a b nonterminal alternative at _ (items.root x e) is =
      let same : root_instance ≡ instance = ap (λ (z : Item). z.instance) (sym e ∙ is) in
      subst (λ (z : Instance). Reachable core text (first z b)) same
      (root_first core text w.root b nonterminal alternative
      (subst (λ (z : Instance). IsAlternative core z.nonterminal b nonterminal alternative) (sym same) at))
  beside instance a b nonterminal alternative at _ (items.test it names c x k before holds e) is =
      let h : suc it.dot ≡ 0 = ap (λ (z : Item). z.dot) (sym e ∙ is) in absurd (omega (arith, h))
  beside instance a b nonterminal alternative at _ (items.bind it names name c v x k before has e) is =
      let h : suc it.dot ≡ 0 = ap (λ (z : Item). z.dot) (sym e ∙ is) in absurd (omega (arith, h))
  beside instance a b nonterminal alternative at _ (items.terminal it names what label excluded j x k before matches free e) is =
      let h : suc it.dot ≡ 0 = ap (λ (z : Item). z.dot) (sym e ∙ is) in absurd (omega (arith, h))
  beside instance a b nonterminal alternative at _ (items.call it callee label excluded other d chosen x k calls has e) is =
      let same : callee ≡ instance = ap (λ (z : Item). z.instance) (sym e ∙ is) in
      let here = subst (λ (z : Instance). IsAlternative core z.nonterminal b nonterminal alternative) (sym same) at in
      subst (λ (z : Instance). Reachable core text (first z b)) same
      (reach core text (items.call it callee label excluded nonterminal b alternative (first callee b) k calls here refl))
  beside instance a b nonterminal alternative at _ (items.return it done label excluded x k l calls complete free e) is =
      let h : suc it.dot ≡ 0 = ap (λ (z : Item). z.dot) (sym e ∙ is) in absurd (omega (arith, h))

pub alternatives_begin : AlternativesBegin
alternatives_begin core text instance a b nonterminal alternative w r at =
    beside core text w instance a b nonterminal alternative at (first instance a)
    (follows_reachable core text (first instance a) r) refl

-- what a complete item of the root is made of
record IsLast (core : List Nonterminal) (root : HasRoot core) (x : Item) : Type 0 where
  alternative : x.alternative ≡ 1
  dot : x.dot ≡ length root.alternative.steps
  env : x.env ≡ []

last_of_root : (core : List Nonterminal) (root : HasRoot core) (x : Item) → EnvironmentFits core x →
    x.instance.nonterminal ≡ 0 → IsComplete core x → IsLast core root x
last_of_root core root x fits zero_is complete =
    let at : slice_get core 0 ≡ Some complete.nonterminal =
    ap (slice_get core) (sym zero_is) ∙ complete.has.there in
    let same : complete.nonterminal ≡ root.nonterminal = same_Some complete.nonterminal root.nonterminal (sym at ∙ root.first) in
    let there : numbered (root.alternative ∷ []) x.alternative ≡ Some complete.alternative =
    ap (λ (members : List CoreAlt). numbered members x.alternative) (sym root.single) ∙
    ap (λ (n : Nonterminal). numbered n.alternatives x.alternative) (sym same) ∙ complete.has.has in
    let one : x.alternative ≡ 1 = alone root.alternative complete.alternative x.alternative there in
    let chosen : root.alternative ≡ complete.alternative =
    same_Some root.alternative complete.alternative
    (ap (numbered (root.alternative ∷ [])) (sym one) ∙ there) in
    let last : x.dot ≡ length root.alternative.steps = complete.last ∙ ap (λ (a : CoreAlt). length a.steps) (sym chosen) in
    let f = same_alternative core x.instance.nonterminal x.alternative fits.nonterminal complete.nonterminal fits.alternative complete.alternative fits.has complete.has in
    let names : names_at fits.nonterminal fits.alternative x.dot ≡ names_at root.nonterminal root.alternative x.dot =
    λ i. names_at ((f.nonterminals ∙ same) i) ((f.alternatives ∙ sym chosen) i) x.dot in
    let none : names_at root.nonterminal root.alternative x.dot ≡ [] =
    ap (λ (ps : List (List ℕ)). ps ++ flat_map names_of (take x.dot root.alternative.steps)) root.plain ∙
    ap (flat_map names_of) (take_all x.dot root.alternative.steps (le_of_eq (sym last))) ∙ root.unbound in
    record { alternative = one; dot = last; env = nil_from_length x.env (fits.names ∙ ap length (names ∙ none)) }

pub complete_roots_are_one : EnvironmentsFit → CompleteRootsAreOne
complete_roots_are_one fit core text x y w rx ry zero_is same_instance same_position cx cy =
    let a = last_of_root core w.root x (fit core text x w rx) zero_is cx in
    let b = last_of_root core w.root y (fit core text y w ry) (ap (λ (z : Instance). z.nonterminal) same_instance ∙ zero_is) cy in
    let alternatives : x.alternative ≡ y.alternative = a.alternative ∙ sym b.alternative in
    let dots : x.dot ≡ y.dot = a.dot ∙ sym b.dot in
    let envs : x.env ≡ y.env = a.env ∙ sym b.env in
    λ i.
    record {
      instance = sym same_instance i;
      alternative = alternatives i;
      dot = dots i;
      env = envs i;
      position = sym same_position i;
    }
