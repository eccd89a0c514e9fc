-- What the step before which an item stands leads to is determined.
use Rattle.std.proofs.Common.{◌≡◌, ℕ, List, [], ◌∷◌, map, Option, Some, None, slice_get, refl, sym, ap, ◌∙◌, subst, subst₂, arith}
use Rattle.ig_text.specs.Input.{Input}
use Rattle.ig_text.proofs.Equal.{same_listed}
use Rattle.ig_expr.specs.Evaluation.{value_of}
use Rattle.ig_expr.specs.declared.value.Value.{Value}
use Rattle.ig_item.specs.Core.{IsAlternative}
use Rattle.ig_item.specs.Visible.{names_at}
use Rattle.ig_item.specs.Items.{Item, past, span_of, StandsBefore, Calls}
use Rattle.ig_item.specs.Step.{Step, Test, Bind, Term, Call}
use Rattle.ig_item.specs.declared.core_grammar.Nonterminal.{Nonterminal}
use Rattle.ig_item.specs.declared.items.Instance.{Instance}
use Rattle.ig_item.specs.Gives as rules
use Rattle.ig_item.specs.Gives.{NodeKey, Taken}
use Rattle.ig_forest_live.specs.Live.{Gives}
use Rattle.ig_forest.proofs.Given.{Given}
use Rattle.ig_forest.proofs.Steps.{given_dot}

-- the same alternative of the same instance, at the same dot
pub record Alike (x y : Item) : Type 0 where
  pub instance : x.instance ≡ y.instance
  pub alternative : x.alternative ≡ y.alternative
  pub dot : x.dot ≡ y.dot

-- what forms steps and what they take have
abbrev pub form : Taken → ℕ
form rules.nothing = 0
form (rules.leaf span) = 1
form (rules.tree key) = 2

abbrev step_form : Step → ℕ
step_form (Test e) = 0
step_form (Bind name e) = 0
step_form (Term what label excluded) = 1
step_form (Call callee arguments label excluded) = 2

-- to where the item comes that takes this
abbrev pub end_of : Item → Taken → ℕ
end_of prev rules.nothing = prev.position
end_of prev (rules.leaf span) = span.end
end_of prev (rules.tree key) = key.end

abbrev listed : Option Value → List Value
listed None = []
listed (Some v) = v ∷ []

-- what a step binds that leads to j
abbrev bound : Input → List (List ℕ) → Item → ℕ → Step → List Value
bound text names prev j (Test e) = []
bound text names prev j (Bind name e) = listed (value_of text names prev.env prev.position e)
bound text names prev j (Term what label excluded) = span_of label prev.position j
bound text names prev j (Call callee arguments label excluded) = span_of label prev.position j

module _ (core : List Nonterminal) (text : Input) where
  -- the step that a rule takes, and the item to which it leads
  pub record Stepped (prev : Item) (taken : Taken) (x : Item) : Type 0 where
    pub names : List (List ℕ)
    pub step : Step
    pub before : StandsBefore core prev names step
    pub formed : step_form step ≡ form taken
    pub is : x ≡ past prev (bound text names prev (end_of prev taken) step) (end_of prev taken)

  pub stepped : {prev x : Item} {taken : Taken} → Gives core text prev taken x → Stepped prev taken x
  stepped (rules.test prev names e x reachable before holds is) =
      record { names = names; step = Test e; before = before; formed = refl; is = is }
  stepped (rules.bind prev names name e v x reachable before has is) =
      record {
        names = names;
        step = Bind name e;
        before = before;
        formed = refl;
        is = is ∙ ap (λ (o : Option Value). past prev (listed o) prev.position) (sym has);
      }
  stepped (rules.terminal prev names what label excluded j taken x reachable before matches free t is) =
      let ends : end_of prev taken ≡ j = ap (end_of prev) t in
      record {
        names = names;
        step = Term what label excluded;
        before = before;
        formed = sym (ap form t);
        is = is ∙ ap (λ (z : ℕ). past prev (span_of label prev.position z) z) (sym ends);
      }
  stepped (rules.return prev done label excluded key x reachable r calls c free is) =
      record {
        names = calls.names;
        step = Call key.instance.nonterminal calls.arguments label excluded;
        before = calls.before;
        formed = refl;
        is = is;
      }

  pub given_instance : {prev x : Item} {taken : Taken} → Gives core text prev taken x → x.instance ≡ prev.instance
  given_instance g = ap (λ (y : Item). y.instance) (stepped g).is

  pub given_alternative : {prev x : Item} {taken : Taken} → Gives core text prev taken x → x.alternative ≡ prev.alternative
  given_alternative g = ap (λ (y : Item). y.alternative) (stepped g).is

  -- the previous items of like items are alike
  pub alike_before : {p x q y : Item} {taken other : Taken} → Gives core text p taken x → Gives core text q other y →
      Alike x y → Alike p q
  alike_before {p = p} {q = q} g h a =
      let dots : p.dot ≡ q.dot = omega (arith, given_dot core text g, given_dot core text h, a.dot) in
      record {
        instance = sym (given_instance g) ∙ a.instance ∙ given_instance h;
        alternative = sym (given_alternative g) ∙ a.alternative ∙ given_alternative h;
        dot = dots;
      }

  -- like items stand before one step
  moved : (p q : Item) (names : List (List ℕ)) (step : Step) → Alike p q → StandsBefore core q names step →
      StandsBefore core p names step
  moved p q names step a b =
      record {
        nonterminal = b.nonterminal;
        alternative = b.alternative;
        has =
            subst₂ (λ (i : Instance) (k : ℕ). IsAlternative core i.nonterminal k b.nonterminal b.alternative)
            (sym a.instance) (sym a.alternative) b.has;
        next = ap (slice_get b.alternative.steps) a.dot ∙ b.next;
        visible = b.visible ∙ ap (names_at b.nonterminal b.alternative) (sym a.dot);
      }

  module _ (given : Given) where
    pub same_form : {p x q y : Item} {taken other : Taken} → Gives core text p taken x → Gives core text q other y →
        Alike p q → form taken ≡ form other
    same_form {p = p} {q = q} g h a =
        let s = stepped g in
        let t = stepped h in
        let one = given.before_one core p s.names t.names s.step t.step s.before (moved p q t.names t.step a t.before) in
        sym s.formed ∙ ap step_form one.1 ∙ t.formed

    -- taking the same thing leads to the same item
    pub same_target : {p x y : Item} {taken : Taken} → Gives core text p taken x → Gives core text p taken y → x ≡ y
    same_target {p = p} {taken = taken} g h =
        let s = stepped g in
        let t = stepped h in
        let one = given.before_one core p s.names t.names s.step t.step s.before t.before in
        let end = end_of p taken in
        s.is ∙ (λ i. past p (bound text (one.0 i) p end (one.1 i)) end) ∙ sym t.is

    -- an item calls one instance
    called : {p x : Item} {taken : Taken} → Gives core text p taken x → (key : NodeKey) → taken ≡ rules.tree key →
        (label : Option (List ℕ)) × ((excluded : List _) × Calls core text p key.instance label excluded)
    called (rules.test prev names e x reachable before holds is) key h = cc
    called (rules.bind prev names name e v x reachable before has is) key h = cc
    called (rules.terminal prev names what label excluded j taken x reachable before matches free t is) key h = cc
    called (rules.return prev done label excluded own x reachable r calls c free is) key h =
        let same : own ≡ key = cc in
        (label, (excluded, subst (λ (k : NodeKey). Calls core text prev k.instance label excluded) same calls))

    pub one_callee : {p x y : Item} (k m : NodeKey) → Gives core text p (rules.tree k) x → Gives core text p (rules.tree m) y →
        k.instance ≡ m.instance
    one_callee {p = p} k m g h =
        let s = called g k refl in
        let t = called h m refl in
        let a = s.1.1 in
        let b = t.1.1 in
        let one = given.before_one core p a.names b.names _ _ a.before b.before in
        let callee : k.instance.nonterminal ≡ m.instance.nonterminal = cc in
        let arguments : a.arguments ≡ b.arguments = cc in
        let both : map (value_of text a.names p.env p.position) a.arguments ≡ map (value_of text b.names p.env p.position) b.arguments =
        (λ i. map (value_of text (one.0 i) p.env p.position) (arguments i)) in
        let values = same_listed k.instance.values m.instance.values (sym a.values ∙ both ∙ b.values) in
        let start = a.here ∙ sym b.here in
        λ i. record { nonterminal = callee i; values = values i; start = start i }
