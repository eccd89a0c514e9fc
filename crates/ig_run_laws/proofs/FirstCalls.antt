-- Up to the first call of an alternative an instance has one item at a dot; so what is behind that call comes once.
use Rattle.std.proofs.Common.{◌≡◌, ℕ, zero, suc, ◌≤◌, List, [], ◌∷◌, Option, Some, option_map, option_and_then, Contains, refl, sym, ap, ◌∙◌, subst, arith, slice_get}
use Rattle.std.proofs.lemmas.Option.{same_Some}
use Rattle.ig_text.specs.Input.{Input}
use Rattle.ig_text.specs.Pattern.{Matches}
use Rattle.ig_text.specs.declared.pattern.Pattern.{Pattern}
use Rattle.ig_text.proofs.Lists.{contains_from_at}
use Rattle.ig_text.proofs.Matching.{one_end}
use Rattle.ig_expr.specs.Evaluation.{value_of}
use Rattle.ig_expr.specs.Expression.{Expression}
use Rattle.ig_expr.specs.declared.value.Value.{Value}
use Rattle.ig_item.specs.Core.{IsAlternative, numbered, steps_at}
use Rattle.ig_item.specs.Items as items
use Rattle.ig_item.specs.Items.{Item, Calls, Follows, HasValue, IsComplete, StandsBefore, first, past, span_of}
use Rattle.ig_item.specs.Step.{Step, Test, Bind, Term, Call}
use Rattle.ig_item.specs.declared.core_grammar.Nonterminal.{Nonterminal}
use Rattle.ig_item.specs.declared.core_grammar.CoreAlt.{CoreAlt}
use Rattle.ig_item.specs.declared.items.Instance.{Instance}
use Rattle.ig_item.specs.declared.ways.Way.{Way}
use Rattle.ig_item.specs.declared.ways.Way.TheVariants.{Begin, Pass, Leaf, Node as Tree}
use Rattle.ig_queue.specs.declared.ticket.Ticket.{Ticket}
use Rattle.ig_run_laws.specs.AfterBy as by
use Rattle.ig_run_laws.specs.AfterBy.{AfterBy}
use Rattle.ig_run_laws.specs.Finding.{Finding, IsTaken, Takes}
use Rattle.ig_run_laws.specs.FirstCalls.{CallsNothing, IsBehindCall, IsBehindFirst}
use Rattle.ig_run_laws.specs.Laws.{BeginsAreOne, FirstReturnsAreNew, ReturnsComeByNodes}
use Rattle.ig_run_laws.specs.Rules.{IsReturn}
use Rattle.ig_run_laws.specs.Run.{IsWhole}
use Rattle.ig_run_laws.specs.Stacks.{Node, HasPop, IsFirstThere, pop}
use Rattle.ig_run_laws.proofs.After.{pop_of}
use Rattle.ig_run_laws.proofs.Steps.{calls_one, one_step, stands_too, visible_one}
use Rattle.ig_run_laws.proofs.Taking.{taken_found, too}

steps_in : (core : List Nonterminal) (n a : ℕ) (m : Nonterminal) (u : CoreAlt) → IsAlternative core n a m u → steps_at core n a ≡ Some u.steps
steps_in core n a m u h =
    ap (λ o. option_map (λ (alternative : CoreAlt). alternative.steps) (option_and_then (λ (z : Nonterminal). numbered z.alternatives a) o)) h.there ∙
    ap (option_map (λ (alternative : CoreAlt). alternative.steps)) h.has

-- y is behind p over a step that calls nothing
data IsAlone (core : List Nonterminal) (text : Input) (p y : Item) : Type 0 where
  test : (names : List (List ℕ)) (e : Expression) → StandsBefore core p names (Test e) → y ≡ past p [] p.position → IsAlone core text p y
  bind : (names : List (List ℕ)) (name : List ℕ) (e : Expression) (v : Value) → StandsBefore core p names (Bind name e) →
      HasValue text p names e v → y ≡ past p (v ∷ []) p.position → IsAlone core text p y
  terminal : (names : List (List ℕ)) (what : Pattern) (label : Option (List ℕ)) (excluded : List Pattern) (j : ℕ) →
      StandsBefore core p names (Term what label excluded) → Matches text what p.position j →
      y ≡ past p (span_of label p.position j) j → IsAlone core text p y

-- an item is the one behind p
record IsPastOf (p y : Item) : Type 0 where
  pub instance : p.instance ≡ y.instance
  pub alternative : p.alternative ≡ y.alternative
  pub dot : y.dot ≡ suc p.dot

past_of : (p y : Item) (bound : List Value) (j : ℕ) → y ≡ past p bound j → IsPastOf p y
past_of p y bound j e =
    record {
      instance = sym (ap (λ (z : Item). z.instance) e);
      alternative = sym (ap (λ (z : Item). z.alternative) e);
      dot = ap (λ (z : Item). z.dot) e;
    }

module _ (core : List Nonterminal) (text : Input) where
  alone_past : (p y : Item) → IsAlone core text p y → IsPastOf p y
  alone_past p y (test names e b f) = past_of p y [] p.position f
  alone_past p y (bind names name e v b has f) = past_of p y (v ∷ []) p.position f
  alone_past p y (terminal names what label excluded j b m f) = past_of p y (span_of label p.position j) j f

  -- there is at most one such item behind p
  alone_one : (p y z : Item) → IsAlone core text p y → IsAlone core text p z → y ≡ z
  alone_one p y z (test ns e b f) (test ms d c g) = f ∙ sym g
  alone_one p y z (test ns e b f) (bind ms name d v c has g) =
      absurd (let q = one_step core text p ns ms (Test e) (Bind name d) b c in cc)
  alone_one p y z (test ns e b f) (terminal ms what label excluded j c m g) =
      absurd (let q = one_step core text p ns ms (Test e) (Term what label excluded) b c in cc)
  alone_one p y z (bind ns name e v b has f) (test ms d c g) =
      absurd (let q = one_step core text p ns ms (Bind name e) (Test d) b c in cc)
  alone_one p y z (bind ns name e v b has f) (bind ms other d w c got g) =
      let q = one_step core text p ns ms (Bind name e) (Bind other d) b c in
      let same : e ≡ d = cc q in
      let names = visible_one core text p ns ms (Bind name e) (Bind other d) b c in
      let values : v ≡ w =
      same_Some v w
      (sym has ∙ ap (λ n. value_of text n p.env p.position e) names ∙ ap (λ n. value_of text ms p.env p.position n) same ∙ got) in
      f ∙ ap (λ n. past p (n ∷ []) p.position) values ∙ sym g
  alone_one p y z (bind ns name e v b has f) (terminal ms what label excluded j c m g) =
      absurd (let q = one_step core text p ns ms (Bind name e) (Term what label excluded) b c in cc)
  alone_one p y z (terminal ns what label excluded j b m f) (test ms d c g) =
      absurd (let q = one_step core text p ns ms (Term what label excluded) (Test d) b c in cc)
  alone_one p y z (terminal ns what label excluded j b m f) (bind ms name d v c has g) =
      absurd (let q = one_step core text p ns ms (Term what label excluded) (Bind name d) b c in cc)
  alone_one p y z (terminal ns what label excluded j b m f) (terminal ms pattern l ex k c n g) =
      let q = one_step core text p ns ms (Term what label excluded) (Term pattern l ex) b c in
      let same_pattern : what ≡ pattern = cc q in
      let same_label : label ≡ l = cc q in
      let ends = one_end text what p.position j k m (subst (λ u. Matches text u p.position k) (sym same_pattern) n) in
      f ∙ ap (λ u. past p (span_of label p.position u) u) ends ∙ ap (λ u. past p (span_of u p.position k) k) same_label ∙ sym g

  module _ (known : Item → Type 0) where
    -- at dot 0 stands a first item
    is_first : (y : Item) → Follows core text known y → y.dot ≡ 0 → y ≡ first y.instance y.alternative
    is_first y (items.root z f) start = f ∙ sym (ap (λ (u : Item). first u.instance u.alternative) f)
    is_first y (items.test p names e z k b holds f) start = absurd (let d = ap (λ (u : Item). u.dot) f in omega (arith, d, start))
    is_first y (items.bind p names name e v z k b has f) start = absurd (let d = ap (λ (u : Item). u.dot) f in omega (arith, d, start))
    is_first y (items.terminal p names what label excluded j z k b m free f) start =
        absurd (let d = ap (λ (u : Item). u.dot) f in omega (arith, d, start))
    is_first y (items.call p callee label excluded nonterminal a alternative z k calls at f) start =
        f ∙ sym (ap (λ (u : Item). first u.instance u.alternative) f)
    is_first y (items.return p done label excluded z k l calls complete free f) start =
        absurd (let d = ap (λ (u : Item). u.dot) f in omega (arith, d, start))

    -- what is further and isn't behind a call is behind a known item alone
    behind_one : (y : Item) → Follows core text known y → (n : ℕ) → y.dot ≡ suc n → CallsNothing core y.instance.nonterminal y.alternative (suc n) →
        (p : Item) × known p × IsAlone core text p y
    behind_one y (items.root z f) n further none = absurd (let d = ap (λ (u : Item). u.dot) f in omega (arith, d, further))
    behind_one y (items.test p names e z k b holds f) n further none = (p, k, test names e b f)
    behind_one y (items.bind p names name e v z k b has f) n further none = (p, k, bind names name e v b has f)
    behind_one y (items.terminal p names what label excluded j z k b m free f) n further none =
        (p, k, terminal names what label excluded j b m f)
    behind_one y (items.call p callee label excluded nonterminal a alternative z k calls at f) n further none =
        absurd (let d = ap (λ (u : Item). u.dot) f in omega (arith, d, further))
    behind_one y (items.return p done label excluded z k l calls complete free f) n further none =
        let b = calls.before in
        let d : z.dot ≡ suc p.dot = ap (λ (u : Item). u.dot) f in
        let steps = steps_in core p.instance.nonterminal p.alternative b.nonterminal b.alternative b.has in
        absurd (none b.alternative.steps p.dot
        (ap (λ (u : Item). steps_at core u.instance.nonterminal u.alternative) f ∙ steps) (omega (arith, d, further))
        (done.instance.nonterminal, calls.arguments, label, excluded, b.next))

  nothing_too : (i j : Instance) (a b n m : ℕ) → i ≡ j → a ≡ b → m ≤ n → CallsNothing core i.nonterminal a n →
      CallsNothing core j.nonterminal b m
  nothing_too i j a b n m e f le none steps k of lt call =
      none steps k (ap (λ (u : Instance). steps_at core u.nonterminal a) e ∙ ap (steps_at core j.nonterminal) f ∙ of)
      (omega (arith, le, lt)) call

  module _ (a : Finding) (nodes : List Node) (whole : IsWhole core text a nodes) where
    abbrev known : Item → Type 0
    known = IsTaken a.items a.waiting

    one_at : (n : ℕ) (y z : Item) → Contains a.items y → Contains a.items z → y.instance ≡ z.instance → y.alternative ≡ z.alternative →
        y.dot ≡ n → z.dot ≡ n → CallsNothing core y.instance.nonterminal y.alternative n → y ≡ z
    one_at zero y z c d i e f g none =
        is_first known y ((whole.run.exact y).0 c) f ∙ (λ k. first (i k) (e k)) ∙ sym (is_first known z ((whole.run.exact z).0 d) g)
    one_at (suc n) y z c d i e f g none =
        let p = behind_one known y ((whole.run.exact y).0 c) n f none in
        let q = behind_one known z ((whole.run.exact z).0 d) n g
        (nothing_too y.instance z.instance y.alternative z.alternative (suc n) (suc n) i e (omega arith) none) in
        let at = alone_past p.0 y p.2 in let bt = alone_past q.0 z q.2 in
        let at_dot = at.dot in let bt_dot = bt.dot in
        let same =
        one_at n p.0 q.0 (taken_found a.items a.waiting p.0 p.1) (taken_found a.items a.waiting q.0 q.1)
        (at.instance ∙ i ∙ sym bt.instance) (at.alternative ∙ e ∙ sym bt.alternative) (omega (arith, f, at_dot)) (omega (arith, g, bt_dot))
        (nothing_too y.instance p.0.instance y.alternative p.0.alternative (suc n) n (sym at.instance) (sym at.alternative) (omega arith) none) in
        alone_one q.0 y z (subst (λ u. IsAlone core text u y) same p.2) q.2

    -- what is behind the first call of an alternative, and was found, was so over the same caller and callee
    module _ (caller : Item) (callee : Instance) (end : ℕ) (x : Item) (there : Contains a.items caller)
        (r : IsReturn core text caller callee end x) (b : IsBehindFirst core x) where
      record Came : Type 0 where
        pub caller_known : known caller
        pub done : Item
        pub done_known : known done
        pub of : done.instance ≡ callee
        pub complete : IsComplete core done
        pub ends : done.position ≡ end

      call_step : (y : Item) (u : List Value) (j : ℕ) (ns : List (List ℕ)) (s : Step) → x ≡ past y u j → StandsBefore core y ns s →
          s ≡ Call callee.nonterminal r.calls.arguments r.label r.excluded
      call_step y u j ns s e p =
          let one = sym e ∙ r.is in
          let dots : suc y.dot ≡ suc caller.dot = ap (λ (z : Item). z.dot) one in
          one_step core text caller ns r.calls.names s (Call callee.nonterminal r.calls.arguments r.label r.excluded)
          (stands_too core y caller ns s (ap (λ (z : Item). z.instance) one) (ap (λ (z : Item). z.alternative) one) (omega (arith, dots)) p)
          r.calls.before

      same_caller : (y : Item) (u : List Value) (j : ℕ) → known y → x ≡ past y u j → y ≡ caller
      same_caller y u j k e =
          let one = sym e ∙ r.is in
          let dots : suc y.dot ≡ suc caller.dot = ap (λ (z : Item). z.dot) one in
          let far : x.dot ≡ suc y.dot = ap (λ (z : Item). z.dot) e in
          let next = b.next in
          one_at y.dot y caller (taken_found a.items a.waiting y k) there (ap (λ (z : Item). z.instance) one)
          (ap (λ (z : Item). z.alternative) one) refl (omega (arith, dots))
          (nothing_too x.instance y.instance x.alternative y.alternative b.before y.dot (ap (λ (z : Item). z.instance) e)
          (ap (λ (z : Item). z.alternative) e) (omega (arith, far, next)) b.nothing)

      came : (z : Item) → z ≡ x → Follows core text known z → Came
      came z is (items.root v f) =
          absurd (let d = ap (λ (u : Item). u.dot) (sym f ∙ is) in let e = b.next in omega (arith, d, e))
      came z is (items.test y names e v k before holds f) =
          absurd (let q = call_step y [] y.position names (Test e) (sym is ∙ f) before in cc)
      came z is (items.bind y names name e u v k before has f) =
          absurd (let q = call_step y (u ∷ []) y.position names (Bind name e) (sym is ∙ f) before in cc)
      came z is (items.terminal y names what label excluded j v k before m free f) =
          absurd (let q = call_step y (span_of label y.position j) j names (Term what label excluded) (sym is ∙ f) before in cc)
      came z is (items.call y other label excluded nonterminal n alternative v k calls at f) =
          absurd (let d = ap (λ (u : Item). u.dot) (sym f ∙ is) in let e = b.next in omega (arith, d, e))
      came z is (items.return y done label excluded v k l calls complete free f) =
          let same = same_caller y (span_of label y.position done.position) done.position k (sym is ∙ f) in
          record {
            caller_known = subst known same k;
            done = done;
            done_known = l;
            of = calls_one core text caller done.instance callee label r.label excluded r.excluded
                (subst (λ u. Calls core text u done.instance label excluded) same calls) r.calls;
            complete = complete;
            ends = ap (λ (u : Item). u.position) (sym f ∙ is ∙ r.is);
          }

    module _ (rest : List Ticket) (t : Ticket) (it x : Item) (w : Takes a rest t it) (first_there : IsComplete core it → IsFirstThere nodes it)
        (b : IsBehindFirst core x) (c : Contains a.items x) where
      is_new : (prev done : ℕ) (way : Way) → way ≡ Tree prev done → AfterBy core text a.items nodes it t.number way x → ⊥
      is_new prev done way is (by.test names e before holds e2 f) = let q : Pass t.number ≡ Tree prev done = sym e2 ∙ is in cc
      is_new prev done way is (by.bind names name e v before has e2 f) = let q : Pass t.number ≡ Tree prev done = sym e2 ∙ is in cc
      is_new prev done way is (by.terminal names what label excluded j before m free e2 f) =
          let q : Leaf t.number ≡ Tree prev done = sym e2 ∙ is in cc
      is_new prev done way is (by.call callee d f e2) = let q : Begin ≡ Tree prev done = sym e2 ∙ is in cc
      is_new prev done way is (by.return callee p has r e2) =
          let q = came it callee p.end x (contains_from_at a.items t.number it w.at) r b x refl ((whole.run.exact x).0 c) in
          (too core text a rest t it whole.run w).new q.caller_known
      is_new prev done way is (by.returned e caller complete has at r e2) =
          let q = came caller it.instance it.position x (contains_from_at a.items e caller at) r b x refl ((whole.run.exact x).0 c) in
          let p = pop_of core text known a.items nodes whole.stacks whole.have_nodes (taken_found a.items a.waiting) q.done q.done_known q.complete in
          first_there complete p.0
          (subst (λ u. HasPop nodes it.instance (pop u p.0)) q.ends (subst (λ u. HasPop nodes u (pop q.done.position p.0)) q.of p.1))

  -- what is behind a call comes by a node
  module _ (it x : Item) (b : IsBehindCall core x.instance.nonterminal x.alternative x.dot) where
    no_start : (i : Instance) (n : ℕ) → x ≡ first i n → ⊥
    no_start i n f = let d = ap (λ (u : Item). u.dot) f in let e = b.next in omega (arith, d, e)

    not_alone : (u : List Value) (j : ℕ) (names : List (List ℕ)) (s : Step) → x ≡ past it u j → StandsBefore core it names s →
        s ≡ Call b.calls.0 b.calls.1 b.calls.2 b.calls.3
    not_alone u j names s f p =
        let d : x.dot ≡ suc it.dot = ap (λ (z : Item). z.dot) f in
        let e = b.next in
        let place : it.dot ≡ b.before = omega (arith, d, e) in
        let steps : p.alternative.steps ≡ b.steps =
        same_Some p.alternative.steps b.steps
        (sym (steps_in core it.instance.nonterminal it.alternative p.nonterminal p.alternative p.has) ∙
        sym (ap (λ (z : Item). steps_at core z.instance.nonterminal z.alternative) f) ∙ b.of) in
        same_Some s (Call b.calls.0 b.calls.1 b.calls.2 b.calls.3)
        (sym p.next ∙ ap (slice_get p.alternative.steps) place ∙ ap (λ z. slice_get z b.before) steps ∙ b.calls.4)

    by_node : (found : List Item) (nodes : List Node) (k : ℕ) (way : Way) → AfterBy core text found nodes it k way x →
        (prev : ℕ) × (done : ℕ) × (way ≡ Tree prev done)
    by_node found nodes k way (by.test names e before holds is f) =
        absurd (let q = not_alone [] it.position names (Test e) f before in cc)
    by_node found nodes k way (by.bind names name e v before has is f) =
        absurd (let q = not_alone (v ∷ []) it.position names (Bind name e) f before in cc)
    by_node found nodes k way (by.terminal names what label excluded j before m free is f) =
        absurd (let q = not_alone (span_of label it.position j) j names (Term what label excluded) f before in cc)
    by_node found nodes k way (by.call callee d f is) = absurd (no_start callee f.number f.is)
    by_node found nodes k way (by.return callee p has r is) = (k, p.done, is)
    by_node found nodes k way (by.returned e caller complete has at r is) = (e, k, is)

pub begins_are_one : BeginsAreOne
begins_are_one core text a nodes y z whole c d i e f none =
    one_at core text a nodes whole y.dot y z c d i e refl (sym f) none

pub first_returns_are_new : FirstReturnsAreNew
first_returns_are_new core text a nodes rest t it x prev done whole w first_there m b c =
    is_new core text a nodes whole rest t it x w first_there b c prev done (Tree prev done) refl m

pub returns_come_by_nodes : ReturnsComeByNodes
returns_come_by_nodes core text found nodes it x k way m b = by_node core text it x b found nodes k way m
