-- Where no step calls the root, its items are those of its one instance, and the live complete ones stand at the text's end.
use Rattle.std.proofs.Common.{◌≡◌, ◌∙◌, ℕ, List, length, refl, sym, ap, arith}
use Rattle.std.proofs.lemmas.List.Elements.{All-contains}
use Rattle.std.proofs.lemmas.Option.{slice_get_within}
use Rattle.ig_text.specs.Input.{Input}
use Rattle.ig_text.proofs.Lists.{contains_from_at}
use Rattle.ig_item.specs.Gives as rules
use Rattle.ig_item.specs.Gives.{NodeKey, Taken, leaf, tree}
use Rattle.ig_item.specs.Induction.{kept}
use Rattle.ig_item.specs.Items as items
use Rattle.ig_item.specs.Items.{Item, Follows, IsComplete, Reachable, StandsBefore, root_instance}
use Rattle.ig_item.specs.Laws.{AlternativesAreOne}
use Rattle.ig_item.specs.Step.{Step}
use Rattle.ig_item.specs.declared.core_grammar.Nonterminal.{Nonterminal}
use Rattle.ig_forest_live.specs.Live as live
use Rattle.ig_forest_live.specs.Live.{Gives, IsLive}
use Rattle.ig_verify_laws.specs.Ranges.{IsNoCallOfRoot, RootIsUncalled}

module _ (core : List Nonterminal) (text : Input) (uncalled : RootIsUncalled core) where
  step_uncalled : (it : Item) (names : List (List ℕ)) (step : Step) → StandsBefore core it names step → IsNoCallOfRoot step
  step_uncalled it names step b =
      All-contains IsNoCallOfRoot b.alternative.steps step
      (uncalled it.instance.nonterminal it.alternative b.nonterminal b.alternative b.has)
      (contains_from_at b.alternative.steps it.dot step b.next)

  -- an item of the root is one of its one instance
  abbrev IsOfRoot : Item → Type 0
  IsOfRoot x = x.instance.nonterminal ≡ 0 → x.instance ≡ root_instance

  same_instance : (it x : Item) → x.instance ≡ it.instance → IsOfRoot it → IsOfRoot x
  same_instance it x e of zero = e ∙ of (sym (ap (λ i. i.nonterminal) e) ∙ zero)

  of_root : (x : Item) → Follows core text IsOfRoot x → IsOfRoot x
  of_root x (items.root _ e) = λ zero. ap (λ (y : Item). y.instance) e
  of_root x (items.test it names c _ k before holds e) = same_instance it x (ap (λ (y : Item). y.instance) e) k
  of_root x (items.bind it names name c v _ k before has e) = same_instance it x (ap (λ (y : Item). y.instance) e) k
  of_root x (items.terminal it names what label excluded j _ k before matches free e) =
      same_instance it x (ap (λ (y : Item). y.instance) e) k
  of_root x (items.call it callee label excluded nonterminal a alternative _ k calls at e) =
      λ zero.
      absurd
      (step_uncalled it calls.names _ calls.before (sym (ap (λ (y : Item). y.instance.nonterminal) e) ∙ zero))
  of_root x (items.return it done label excluded _ k l calls complete free e) =
      same_instance it x (ap (λ (y : Item). y.instance) e) k

  pub root_is_one : (x : Item) → Reachable core text x → x.instance.nonterminal ≡ 0 → x.instance ≡ root_instance
  root_is_one x r = kept core text IsOfRoot of_root x r

  -- the item before a step stands before it
  stands : {prev x : Item} {taken : Taken} → Gives core text prev taken x →
      (names : List (List ℕ)) × (step : Step) × StandsBefore core prev names step
  stands (rules.test prev names e x k before holds is) = (names, _, before)
  stands (rules.bind prev names name e v x k before has is) = (names, _, before)
  stands (rules.terminal prev names what label excluded j taken x k before matches free t is) = (names, _, before)
  stands (rules.return prev done label excluded key x k l calls c free is) = (calls.names, _, calls.before)

  -- no step takes a tree of the root
  no_tree : {prev x : Item} {taken : Taken} → Gives core text prev taken x → (key : NodeKey) → taken ≡ tree key →
      key.instance.nonterminal ≡ 0 → ⊥
  no_tree (rules.test prev names e x k before holds is) key same zero = cc
  no_tree (rules.bind prev names name e v x k before has is) key same zero = cc
  no_tree (rules.terminal prev names what label excluded j taken x k before matches free t is) key same zero =
      let never : leaf (record { begin = prev.position; end = j }) ≡ tree key = sym t ∙ same in cc
  no_tree (rules.return prev done label excluded other x k l calls c free is) key same zero =
      let one : other ≡ key = cc in
      step_uncalled prev calls.names _ calls.before (ap (λ (z : NodeKey). z.instance.nonterminal) one ∙ zero)

  module _ (one : AlternativesAreOne) where
    -- an item before a step isn't complete
    incomplete : (it : Item) (names : List (List ℕ)) (step : Step) → StandsBefore core it names step → IsComplete core it → ⊥
    incomplete it names step b c =
        let same =
        one core it.instance.nonterminal it.alternative b.nonterminal c.nonterminal b.alternative c.alternative b.has c.has in
        let within = slice_get_within b.alternative.steps it.dot step b.next in
        let last : it.dot ≡ length b.alternative.steps = c.last ∙ ap (λ z. length z.steps) (sym same.alternatives) in
        omega (arith, within, last)

    pub root_at_end : (x : Item) → IsLive core text x → x.instance.nonterminal ≡ 0 → IsComplete core x →
        x.position ≡ length text.characters
    root_at_end _ (live.root x reachable root end) zero complete = end
    root_at_end _ (live.previous x prev taken l gives) zero complete =
        let s = stands gives in absurd (incomplete prev s.0 s.1 s.2 complete)
    root_at_end _ (live.child x prev done key l gives reachable completes) zero complete =
        absurd (no_tree gives key refl (sym (ap (λ i. i.nonterminal) completes.instance) ∙ zero))
