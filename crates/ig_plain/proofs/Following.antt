-- What follows from the taken items and one more.
use Rattle.std.proofs.Common.{◌≡◌, ◌⊎◌, ⊎_elim, inl, inr, ℕ, List, [], ◌∷◌, ◌++◌, length, Contains, sym, ap, ◌∙◌, subst, arith, slice_get}
use Rattle.std.proofs.lemmas.Option.{same_Some, slice_get_within}
use Rattle.ig_text.specs.Input.{Input}
use Rattle.ig_text.proofs.Lists.{in_pushed}
use Rattle.ig_item.specs.Step.{Step}
use Rattle.ig_item.specs.Core.{IsAlternative, numbered}
use Rattle.ig_item.specs.Items as items
use Rattle.ig_item.specs.Items.{Item, Follows, Reachable, StandsBefore, IsComplete}
use Rattle.ig_item.specs.Laws.{ReachableIsClosed}
use Rattle.ig_item.specs.declared.core_grammar.Nonterminal.{Nonterminal}
use Rattle.ig_item.specs.declared.core_grammar.CoreAlt.{CoreAlt}
use Rattle.ig_run_laws.specs.Rules as rules
use Rattle.ig_run_laws.specs.Rules.{After}

module _ (core : List Nonterminal) (text : Input) where
  pub same_alternative : (n a : ℕ) (m k : Nonterminal) (u v : CoreAlt) → IsAlternative core n a m u → IsAlternative core n a k v → u ≡ v
  same_alternative n a m k u v p q =
      let e : m ≡ k = same_Some m k (sym p.there ∙ q.there) in
      same_Some u v (sym p.has ∙ ap (λ (z : Nonterminal). numbered z.alternatives a) e ∙ q.has)

  pub one_step : (it : Item) (names others : List (List ℕ)) (s t : Step) → StandsBefore core it names s → StandsBefore core it others t → s ≡ t
  one_step it names others s t p q =
      let e = same_alternative it.instance.nonterminal it.alternative p.nonterminal q.nonterminal p.alternative q.alternative p.has q.has in
      same_Some s t (sym p.next ∙ ap (λ (z : CoreAlt). slice_get z.steps it.dot) e ∙ q.next)

  pub not_both : (it : Item) (names : List (List ℕ)) (s : Step) → StandsBefore core it names s → IsComplete core it → ⊥
  not_both it names s p q =
      let e = same_alternative it.instance.nonterminal it.alternative p.nonterminal q.nonterminal p.alternative q.alternative p.has q.has in
      let lt = slice_get_within p.alternative.steps it.dot s p.next in
      let len = ap (λ (z : CoreAlt). length z.steps) e in let last = q.last in omega (arith, lt, len, last)

  -- what follows now followed before, or follows from the item that is taken now
  pub splits : (taken : List Item) (it x : Item) → Follows core text (Contains (taken ++ it ∷ [])) x →
      Follows core text (Contains taken) x ⊎ After core text (Contains taken) it x
  splits taken it x (items.root y e) = inl (items.root y e)
  splits taken it x (items.test y names c z k before holds e) =
      ⊎_elim (λ (h : Contains taken y). inl (items.test y names c z h before holds e))
      (λ (h : y ≡ it). inr (subst (λ (v : Item). After core text (Contains taken) v z) h (rules.test names c before holds e))) (in_pushed taken it y k)
  splits taken it x (items.bind y names name c v z k before has e) =
      ⊎_elim (λ (h : Contains taken y). inl (items.bind y names name c v z h before has e))
      (λ (h : y ≡ it). inr (subst (λ (u : Item). After core text (Contains taken) u z) h (rules.bind names name c v before has e))) (in_pushed taken it y k)
  splits taken it x (items.terminal y names what label excluded j z k before matches free e) =
      ⊎_elim (λ (h : Contains taken y). inl (items.terminal y names what label excluded j z h before matches free e))
      (λ (h : y ≡ it). inr (subst (λ (u : Item). After core text (Contains taken) u z) h (rules.terminal names what label excluded j before matches free e)))
      (in_pushed taken it y k)
  splits taken it x (items.call y callee label excluded nonterminal a alternative z k calls at e) =
      ⊎_elim (λ (h : Contains taken y). inl (items.call y callee label excluded nonterminal a alternative z h calls at e))
      (λ (h : y ≡ it). inr (subst (λ (u : Item). After core text (Contains taken) u z) h (rules.call callee label excluded nonterminal a alternative calls at e)))
      (in_pushed taken it y k)
  splits taken it x (items.return y done label excluded z k l calls complete free e) =
      ⊎_elim
      (λ (h : Contains taken y).
      ⊎_elim (λ (i : Contains taken done). inl (items.return y done label excluded z h i calls complete free e))
      (λ (i : done ≡ it).
      inr (subst (λ (u : Item). After core text (Contains taken) u z) i (rules.returned y label excluded h calls complete free e)))
      (in_pushed taken it done l))
      (λ (h : y ≡ it).
      ⊎_elim
      (λ (i : Contains taken done).
      inr (subst (λ (u : Item). After core text (Contains taken) u z) h (rules.return done label excluded i calls complete free e)))
      (λ (i : done ≡ it).
      absurd (not_both y calls.names _ calls.before (subst (IsComplete core) (i ∙ sym h) complete)))
      (in_pushed taken it done l))
      (in_pushed taken it y k)

  -- what follows from reachable items is reachable
  pub after_reachable : ReachableIsClosed → (taken : List Item) (it x : Item) → ((y : Item) → Contains taken y → Reachable core text y) →
      Reachable core text it → After core text (Contains taken) it x → Reachable core text x
  after_reachable law taken it x all r (rules.test names e before holds f) = law core text x (items.test it names e x r before holds f)
  after_reachable law taken it x all r (rules.bind names name e v before has f) = law core text x (items.bind it names name e v x r before has f)
  after_reachable law taken it x all r (rules.terminal names what label excluded j before matches free e) =
      law core text x (items.terminal it names what label excluded j x r before matches free e)
  after_reachable law taken it x all r (rules.call callee label excluded nonterminal a alternative calls at e) =
      law core text x (items.call it callee label excluded nonterminal a alternative x r calls at e)
  after_reachable law taken it x all r (rules.return done label excluded k calls complete free e) =
      law core text x (items.return it done label excluded x r (all done k) calls complete free e)
  after_reachable law taken it x all r (rules.returned caller label excluded k calls complete free e) =
      law core text x (items.return caller it label excluded x (all caller k) r calls complete free e)
