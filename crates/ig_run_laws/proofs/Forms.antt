-- What follows from an item by the form of its step.
use Rattle.std.proofs.Common.{◌≡◌, inl, inr, ℕ, List, [], ◌∷◌, Option, sym, ap, ◌∙◌, subst, true}
use Rattle.ig_text.specs.Input.{Input}
use Rattle.ig_text.specs.Pattern.{Matches}
use Rattle.ig_text.specs.declared.pattern.Pattern.{Pattern}
use Rattle.ig_expr.specs.Expression.{Expression}
use Rattle.ig_expr.specs.declared.value.Value.{Value}
use Rattle.ig_expr.specs.declared.value.Value.TheVariants.{Bool as truth}
use Rattle.ig_item.specs.Step.{Step, Test, Bind, Term, Call}
use Rattle.ig_item.specs.Items.{Item, IsComplete, StandsBefore, HasValue, MatchesNone, past, span_of}
use Rattle.ig_item.specs.declared.core_grammar.Nonterminal.{Nonterminal}
use Rattle.ig_item.specs.declared.items.Instance.{Instance}
use Rattle.ig_item.specs.declared.ways.Way.{Way}
use Rattle.ig_item.specs.declared.ways.Way.TheVariants.{Pass, Leaf}
use Rattle.ig_run_laws.specs.AfterBy as after
use Rattle.ig_run_laws.specs.AfterBy.{AfterBy, AfterCall, AfterEnd}
use Rattle.ig_run_laws.specs.Laws.{TestsPass, BindsPass, TerminalsTakeLeaves, CallersMeetPops, NoneIsCalled, EndsMeetEdges, ReturnsArePastCalls}
use Rattle.ig_run_laws.specs.Rules.{IsCaller, IsReturn, IsFirstOf}
use Rattle.ig_run_laws.specs.Stacks.{Node, HasPop}
use Rattle.ig_run_laws.proofs.Steps.{one_step, not_both, visible_one, calls_one, ends_call_nothing}

module _ (core : List Nonterminal) (text : Input) (found : List Item) (nodes : List Node) (it : Item) (k : ℕ) (way : Way) (x : Item) where
  -- a caller stands before a call
  clash : (names others : List (List ℕ)) (s t : Step) → StandsBefore core it names s → StandsBefore core it others t → s ≡ t
  clash names others s t p q = one_step core text it names others s t p q

  module _ (names : List (List ℕ)) where
    test_form : (e : Expression) → StandsBefore core it names (Test e) → AfterBy core text found nodes it k way x →
        (way ≡ Pass k) × HasValue text it names e (truth true) × (x ≡ past it [] it.position)
    test_form e before (after.test ns f b h w g) =
        let z = clash ns names (Test f) (Test e) b before in let q : f ≡ e = cc z in
        let n = visible_one core text it ns names (Test f) (Test e) b before in
        (w, subst (λ y. HasValue text it names y (truth true)) q (subst (λ y. HasValue text it y f (truth true)) n h), g)
    test_form e before (after.bind ns name f v b h w g) = let z = clash ns names (Bind name f) (Test e) b before in cc
    test_form e before (after.terminal ns what l f j b m free w g) = let z = clash ns names (Term what l f) (Test e) b before in cc
    test_form e before (after.call callee c first w) =
        let z = clash c.calls.names names (Call callee.nonterminal c.calls.arguments c.label c.excluded) (Test e) c.calls.before before in cc
    test_form e before (after.return callee p has r w) =
        let z = clash r.calls.names names (Call callee.nonterminal r.calls.arguments r.label r.excluded) (Test e) r.calls.before before in cc
    test_form e before (after.returned d caller complete has at r w) = absurd (not_both core text it names (Test e) before complete)

    bind_form : (name : List ℕ) (e : Expression) → StandsBefore core it names (Bind name e) → AfterBy core text found nodes it k way x →
        (way ≡ Pass k) × ((v : Value) × HasValue text it names e v × (x ≡ past it (v ∷ []) it.position))
    bind_form name e before (after.test ns f b h w g) = let z = clash ns names (Test f) (Bind name e) b before in cc
    bind_form name e before (after.bind ns other f v b h w g) =
        let z = clash ns names (Bind other f) (Bind name e) b before in let q : f ≡ e = cc z in
        let n = visible_one core text it ns names (Bind other f) (Bind name e) b before in
        (w, (v, subst (λ y. HasValue text it names y v) q (subst (λ y. HasValue text it y f v) n h), g))
    bind_form name e before (after.terminal ns what l f j b m free w g) = let z = clash ns names (Term what l f) (Bind name e) b before in cc
    bind_form name e before (after.call callee c first w) =
        let z = clash c.calls.names names (Call callee.nonterminal c.calls.arguments c.label c.excluded) (Bind name e) c.calls.before before in cc
    bind_form name e before (after.return callee p has r w) =
        let z = clash r.calls.names names (Call callee.nonterminal r.calls.arguments r.label r.excluded) (Bind name e) r.calls.before before in cc
    bind_form name e before (after.returned d caller complete has at r w) = absurd (not_both core text it names (Bind name e) before complete)

    terminal_form : (what : Pattern) (label : Option (List ℕ)) (excluded : List Pattern) → StandsBefore core it names (Term what label excluded) →
        AfterBy core text found nodes it k way x →
        (way ≡ Leaf k) × ((j : ℕ) × Matches text what it.position j × MatchesNone text excluded it.position j ×
        (x ≡ past it (span_of label it.position j) j))
    terminal_form what label excluded before (after.test ns f b h w g) = let z = clash ns names (Test f) (Term what label excluded) b before in cc
    terminal_form what label excluded before (after.bind ns name f v b h w g) =
        let z = clash ns names (Bind name f) (Term what label excluded) b before in cc
    terminal_form what label excluded before (after.terminal ns pattern l f j b m free w g) =
        let z = clash ns names (Term pattern l f) (Term what label excluded) b before in
        let q : pattern ≡ what = cc z in let n : l ≡ label = cc z in let o : f ≡ excluded = cc z in (
          w,
          (
            j,
            subst (λ y. Matches text y it.position j) q m,
            subst (λ y. MatchesNone text y it.position j) o free,
            g ∙ ap (λ y. past it (span_of y it.position j) j) n,
          ),
        )
    terminal_form what label excluded before (after.call callee c first w) =
        let z = clash c.calls.names names (Call callee.nonterminal c.calls.arguments c.label c.excluded) (Term what label excluded) c.calls.before before in cc
    terminal_form what label excluded before (after.return callee p has r w) =
        let z = clash r.calls.names names (Call callee.nonterminal r.calls.arguments r.label r.excluded) (Term what label excluded) r.calls.before before in cc
    terminal_form what label excluded before (after.returned d caller complete has at r w) =
        absurd (not_both core text it names (Term what label excluded) before complete)

  -- an item before a call
  module _ (callee : Instance) (c : IsCaller core text it callee) where
    abbrev step : Step
    step = Call callee.nonterminal c.calls.arguments c.label c.excluded

    same_callee : (other : Instance) → IsCaller core text it other → other ≡ callee
    same_callee other d = calls_one core text it other callee d.label c.label d.excluded c.excluded d.calls c.calls

    call_form : AfterBy core text found nodes it k way x → AfterCall core text nodes it k callee way x
    call_form (after.test ns f b h w g) = let z = clash ns c.calls.names (Test f) step b c.calls.before in cc
    call_form (after.bind ns name f v b h w g) = let z = clash ns c.calls.names (Bind name f) step b c.calls.before in cc
    call_form (after.terminal ns what l f j b m free w g) = let z = clash ns c.calls.names (Term what l f) step b c.calls.before in cc
    call_form (after.call other d first w) = inl (w, subst (λ (z : Instance). IsFirstOf core z x) (same_callee other d) first)
    call_form (after.return other p has r w) =
        let same = same_callee other (record { label = r.label; excluded = r.excluded; calls = r.calls }) in
        inr (
          p,
          subst (λ (z : Instance). HasPop nodes z p) same has,
          w,
          subst (λ (z : Instance). IsReturn core text it z p.end x) same r,
        )
    call_form (after.returned d caller complete has at r w) = absurd (ends_call_nothing core text it callee complete c)

    call_back : AfterCall core text nodes it k callee way x → AfterBy core text found nodes it k way x
    call_back (inl f) = after.call callee c f.1 f.0
    call_back (inr q) = after.return callee q.0 q.1 q.3 q.2

  no_call_form : (names : List (List ℕ)) (n : ℕ) (arguments : List Expression) (label : Option (List ℕ)) (excluded : List Pattern) →
      StandsBefore core it names (Call n arguments label excluded) → ((i : Instance) → IsCaller core text it i → ⊥) →
      AfterBy core text found nodes it k way x → ⊥
  no_call_form names n arguments label excluded before none (after.test ns f b h w g) =
      let z = clash ns names (Test f) (Call n arguments label excluded) b before in cc
  no_call_form names n arguments label excluded before none (after.bind ns name f v b h w g) =
      let z = clash ns names (Bind name f) (Call n arguments label excluded) b before in cc
  no_call_form names n arguments label excluded before none (after.terminal ns what l f j b m free w g) =
      let z = clash ns names (Term what l f) (Call n arguments label excluded) b before in cc
  no_call_form names n arguments label excluded before none (after.call other d first w) = none other d
  no_call_form names n arguments label excluded before none (after.return other p has r w) =
      none other (record { label = r.label; excluded = r.excluded; calls = r.calls })
  no_call_form names n arguments label excluded before none (after.returned d caller complete has at r w) =
      not_both core text it names (Call n arguments label excluded) before complete

  -- a complete item
  module _ (complete : IsComplete core it) where
    end_form : AfterBy core text found nodes it k way x → AfterEnd core text found nodes it k way x
    end_form (after.test ns f b h w g) = absurd (not_both core text it ns (Test f) b complete)
    end_form (after.bind ns name f v b h w g) = absurd (not_both core text it ns (Bind name f) b complete)
    end_form (after.terminal ns what l f j b m free w g) = absurd (not_both core text it ns (Term what l f) b complete)
    end_form (after.call other d first w) = absurd (ends_call_nothing core text it other complete d)
    end_form (after.return other p has r w) =
        absurd (ends_call_nothing core text it other complete (record { label = r.label; excluded = r.excluded; calls = r.calls }))
    end_form (after.returned d caller c has at r w) = (d, caller, has, at, w, r)

    end_back : AfterEnd core text found nodes it k way x → AfterBy core text found nodes it k way x
    end_back q = after.returned q.0 q.1 complete q.2 q.3 q.5 q.4

pub tests_pass : TestsPass
tests_pass core text found nodes it k names e before way x = (
  test_form core text found nodes it k way x names e before,
  λ q. after.test names e before q.1 q.0 q.2,
)

pub binds_pass : BindsPass
binds_pass core text found nodes it k names name e before way x = (
  bind_form core text found nodes it k way x names name e before,
  λ q. after.bind names name e q.1.0 before q.1.1 q.0 q.1.2,
)

pub terminals_take_leaves : TerminalsTakeLeaves
terminals_take_leaves core text found nodes it k names what label excluded before way x = (
  terminal_form core text found nodes it k way x names what label excluded before,
  λ q. after.terminal names what label excluded q.1.0 before q.1.1 q.1.2 q.0 q.1.3,
)

pub callers_meet_pops : CallersMeetPops
callers_meet_pops core text found nodes it k callee c way x = (
  call_form core text found nodes it k way x callee c,
  call_back core text found nodes it k way x callee c,
)

pub none_is_called : NoneIsCalled
none_is_called core text found nodes it k names callee arguments label excluded before none way x =
    no_call_form core text found nodes it k way x names callee arguments label excluded before none

pub ends_meet_edges : EndsMeetEdges
ends_meet_edges core text found nodes it k complete way x = (
  end_form core text found nodes it k way x complete,
  end_back core text found nodes it k way x complete,
)

module _ (core : List Nonterminal) (text : Input) (y : Item) (names : List (List ℕ)) (n : ℕ) (arguments : List Expression)
    (label : Option (List ℕ)) (excluded : List Pattern) (callee : Instance)
    (before : StandsBefore core y names (Call n arguments label excluded)) (c : IsCaller core text y callee) (end : ℕ) (x : Item) where
  return_forth : IsReturn core text y callee end x →
      MatchesNone text excluded y.position end × (x ≡ past y (span_of label y.position end) end)
  return_forth r =
      let z = one_step core text y r.calls.names names (Call callee.nonterminal r.calls.arguments r.label r.excluded)
      (Call n arguments label excluded) r.calls.before before in
      let l : r.label ≡ label = cc z in let e : r.excluded ≡ excluded = cc z in (
        subst (λ u. MatchesNone text u y.position end) e r.free,
        r.is ∙ ap (λ u. past y (span_of u y.position end) end) l,
      )

  return_back : MatchesNone text excluded y.position end × (x ≡ past y (span_of label y.position end) end) →
      IsReturn core text y callee end x
  return_back q =
      let z = one_step core text y c.calls.names names (Call callee.nonterminal c.calls.arguments c.label c.excluded)
      (Call n arguments label excluded) c.calls.before before in
      let l : c.label ≡ label = cc z in let e : c.excluded ≡ excluded = cc z in
      record {
        label = c.label;
        excluded = c.excluded;
        calls = c.calls;
        free = subst (λ u. MatchesNone text u y.position end) (sym e) q.0;
        is = q.1 ∙ ap (λ u. past y (span_of u y.position end) end) (sym l);
      }

pub returns_are_past_calls : ReturnsArePastCalls
returns_are_past_calls core text y names n arguments label excluded callee before c end x = (
  return_forth core text y names n arguments label excluded callee before c end x,
  return_back core text y names n arguments label excluded callee before c end x,
)
