-- What the rules give an item by the step before which the previous one stands; and that an item behind a test, a binding or
-- a terminal, which comes from one item, isn't found before that is taken.
use Rattle.std.proofs.Common.{◌≡◌, ◌⊎◌, ⊎_elim, inl, inr, ℕ, suc, List, [], ◌∷◌, Option, Some, Contains, refl, sym, ap, ◌∙◌, subst, arith, slice_get}
use Rattle.std.proofs.lemmas.List.{append-nil, same_from_push}
use Rattle.std.proofs.lemmas.Option.{slice_get_within}
use Rattle.ig_text.specs.Input.{Input}
use Rattle.ig_text.specs.declared.pattern.Pattern.{Pattern}
use Rattle.ig_text.proofs.Lists.{at_from_contains, get_within}
use Rattle.ig_expr.specs.Expression.{Expression}
use Rattle.ig_expr.specs.declared.value.Value.{Value}
use Rattle.ig_item.specs.Step.{Step, Test, Bind, Term, Call}
use Rattle.ig_item.specs.Core.{IsAlternative}
use Rattle.ig_item.specs.Visible.{names_at}
use Rattle.ig_item.specs.Items.{Item, Calls, IsComplete, StandsBefore, MatchesNone, past, span_of, HasValue}
use Rattle.ig_item.specs.Gives as given
use Rattle.ig_item.specs.Gives.{NodeKey, Taken, nothing, leaf, tree, Completes, Gives}
use Rattle.ig_item.specs.Ways as ways
use Rattle.ig_item.specs.Ways.{IsWay, Says}
use Rattle.ig_item.specs.declared.core_grammar.Nonterminal.{Nonterminal}
use Rattle.ig_item.specs.declared.items.Instance.{Instance}
use Rattle.ig_item.specs.declared.ways.Way.{Way}
use Rattle.ig_item.specs.declared.ways.Way.TheVariants.{Node}
use Rattle.ig_plain.specs.declared.found.Found.{Found}
use Rattle.ig_plain.specs.declared.trail.Trail.{Trail}
use Rattle.ig_run_moves.specs.Laws.{BeforeTests, BeforeBinds, BeforeTerminals}
use Rattle.ig_run_moves.specs.Rules.{IsBehind, IsBehindTest, IsBehindBind}
use Rattle.ig_plain.specs.Found.{found_in}
use Rattle.ig_plain.specs.Trail as trails
use Rattle.ig_plain.specs.Trail.{FollowTrail, IsNodeAt, Unfound}
use Rattle.ig_plain.proofs.Following.{one_step, not_both}
use Rattle.ig_plain.proofs.Coming.{gives_passing, gives_reading}
use Rattle.ig_plain.proofs.Terminals.{from_one, same_item}
use Rattle.ig_plain.proofs.Calls.{calls_one}

module _ (core : List Nonterminal) (text : Input) (known : Item → Type 0) where
  -- x is behind a call of the instance, of which a known item is complete where x stands
  pub record IsBehindCall (prev : Item) (callee : Instance) (label : Option (List ℕ)) (excluded : List Pattern) (what : Taken)
      (x : Item) : Type 0 where
    pub end : ℕ
    pub done : Item
    pub is_known : known done
    pub completes : Completes core done (record { instance = callee; end = end })
    pub takes : what ≡ tree (record { instance = callee; end = end })
    pub free : MatchesNone text excluded prev.position end
    pub is : x ≡ past prev (span_of label prev.position end) end

  -- behind a call
  pub gives_call : (prev : Item) (what : Taken) (x : Item) (callee : Instance) (label : Option (List ℕ)) (excluded : List Pattern) →
      Gives core text known prev what x → Calls core text prev callee label excluded → IsBehindCall prev callee label excluded what x
  gives_call p w y callee label excluded (given.test prev ns f x k b holds is) calls =
      let z = one_step core text prev ns calls.names _ _ b calls.before in cc
  gives_call p w y callee label excluded (given.bind prev ns other f v x k b has is) calls =
      let z = one_step core text prev ns calls.names _ _ b calls.before in cc
  gives_call p w y callee label excluded (given.terminal prev ns other l f j t x k b m free i is) calls =
      let z = one_step core text prev ns calls.names _ _ b calls.before in cc
  gives_call p w y callee label excluded (given.return prev done l f key x k h c q free is) calls =
      let one = calls_one core text prev key.instance callee l label f excluded c calls in
      let keys : key ≡ record { instance = callee; end = key.end } = ap (λ (z : Instance). record { instance = z; end = key.end }) one.0 in
      record {
        end = key.end;
        done = done;
        is_known = h;
        completes = subst (Completes core done) keys q;
        takes = ap tree keys;
        free = subst (λ (z : List Pattern). MatchesNone text z prev.position key.end) one.2 free;
        is = is ∙ ap (λ (z : Option (List ℕ)). past prev (span_of z prev.position key.end) key.end) one.1;
      }

  -- behind a call there is an instance that is called
  pub gives_calls : (prev : Item) (what : Taken) (x : Item) (names : List (List ℕ)) (nonterminal : ℕ) (arguments : List Expression)
      (label : Option (List ℕ)) (excluded : List Pattern) → Gives core text known prev what x →
      StandsBefore core prev names (Call nonterminal arguments label excluded) →
      (callee : Instance) × (l : Option (List ℕ)) × (e : List Pattern) × Calls core text prev callee l e
  gives_calls p w y names n arguments label excluded (given.test prev ns f x k b holds is) before =
      let z = one_step core text prev ns names _ _ b before in cc
  gives_calls p w y names n arguments label excluded (given.bind prev ns other f v x k b has is) before =
      let z = one_step core text prev ns names _ _ b before in cc
  gives_calls p w y names n arguments label excluded (given.terminal prev ns other l f j t x k b m free i is) before =
      let z = one_step core text prev ns names _ _ b before in cc
  gives_calls p w y names n arguments label excluded (given.return prev done l f key x k h c q free is) before = (key.instance, l, f, c)

  -- nothing is behind a complete item
  pub gives_nothing : (prev : Item) (what : Taken) (x : Item) → Gives core text known prev what x → IsComplete core prev → ⊥
  gives_nothing p w y (given.test prev ns f x k b holds is) complete = not_both core text prev ns _ b complete
  gives_nothing p w y (given.bind prev ns other f v x k b has is) complete = not_both core text prev ns _ b complete
  gives_nothing p w y (given.terminal prev ns other l f j t x k b m free i is) complete = not_both core text prev ns _ b complete
  gives_nothing p w y (given.return prev done l f key x k h c q free is) complete = not_both core text prev c.names _ c.before complete

  -- x is the item after the next step of prev
  pub record IsAfter (prev x : Item) : Type 0 where
    pub instance : x.instance ≡ prev.instance
    pub alternative : x.alternative ≡ prev.alternative
    pub dot : x.dot ≡ suc prev.dot

  -- the item after a step has the step's fields
  after_past : (prev x : Item) (bound : List Value) (j : ℕ) → x ≡ past prev bound j → IsAfter prev x
  after_past prev x bound j is =
      record { instance = ap (λ (z : Item). z.instance) is; alternative = ap (λ (z : Item). z.alternative) is; dot = ap (λ (z : Item). z.dot) is }

  gives_after : (prev : Item) (what : Taken) (x : Item) → Gives core text known prev what x → IsAfter prev x
  gives_after p w y (given.test prev ns f x k b holds is) = after_past prev x _ _ is
  gives_after p w y (given.bind prev ns other f v x k b has is) = after_past prev x _ _ is
  gives_after p w y (given.terminal prev ns other l f j t x k b m free i is) = after_past prev x _ _ is
  gives_after p w y (given.return prev done l f key x k h c q free is) = after_past prev x _ _ is

  -- an item that stands at the same dot stands before the same step
  stands_too : (it prev x : Item) (names : List (List ℕ)) (step : Step) → IsAfter it x → IsAfter prev x → StandsBefore core it names step →
      StandsBefore core prev names step
  stands_too it prev x names step a b s =
      let instance : it.instance ≡ prev.instance = sym a.instance ∙ b.instance in
      let alternative : it.alternative ≡ prev.alternative = sym a.alternative ∙ b.alternative in
      let dots : suc it.dot ≡ suc prev.dot = sym a.dot ∙ b.dot in
      let dot : it.dot ≡ prev.dot = cc dots in
      record {
        nonterminal = s.nonterminal;
        alternative = s.alternative;
        has = subst (λ (z : ℕ). IsAlternative core prev.instance.nonterminal z s.nonterminal s.alternative) alternative
            (subst (λ (z : Instance). IsAlternative core z.nonterminal it.alternative s.nonterminal s.alternative) instance s.has);
        next = ap (slice_get s.alternative.steps) (sym dot) ∙ s.next;
        visible = s.visible ∙ ap (names_at s.nonterminal s.alternative) dot;
      }

  -- items with one item behind them at their own position are the same, if both bound nothing, or one value
  one_before : (it prev x : Item) → IsAfter it x → IsAfter prev x → it.env ≡ prev.env → it.position ≡ prev.position → it ≡ prev
  one_before it prev x a b env position =
      let dots : suc it.dot ≡ suc prev.dot = sym a.dot ∙ b.dot in
      same_item it prev (sym a.instance ∙ b.instance) (sym a.alternative ∙ b.alternative) (cc dots) env position

  -- an item behind a test, a binding or a terminal comes from one item
  from_test : BeforeTests → (it prev : Item) (what : Taken) (x : Item) (names : List (List ℕ)) (e : Expression) → StandsBefore core it names (Test e) →
      IsBehindTest text names e it x → Gives core text known prev what x → it ≡ prev
  from_test law it prev what x names e before m g =
      let a = after_past it x _ _ m.1 in
      let b = gives_after prev what x g in
      let h =
      gives_passing core text known (IsBehindTest text names e prev) prev what x
      (law core text prev names e (stands_too it prev x names (Test e) a b before)) g in
      let same : past it [] it.position ≡ past prev [] prev.position = sym m.1 ∙ h.1.1 in
      one_before it prev x a b (sym (append-nil it.env) ∙ ap (λ (z : Item). z.env) same ∙ append-nil prev.env) (ap (λ (z : Item). z.position) same)

  from_bind : BeforeBinds → (it prev : Item) (what : Taken) (x : Item) (names : List (List ℕ)) (name : List ℕ) (e : Expression) →
      StandsBefore core it names (Bind name e) →
      IsBehindBind text names e it x → Gives core text known prev what x → it ≡ prev
  from_bind law it prev what x names name e before m g =
      let a = after_past it x _ _ m.2 in
      let b = gives_after prev what x g in
      let h =
      gives_passing core text known (IsBehindBind text names e prev) prev what x
      (law core text prev names name e (stands_too it prev x names (Bind name e) a b before)) g in
      let same : past it (m.0 ∷ []) it.position ≡ past prev (h.1.0 ∷ []) prev.position = sym m.2 ∙ h.1.2 in
      one_before it prev x a b (same_from_push it.env prev.env m.0 h.1.0 (ap (λ (z : Item). z.env) same)).0 (ap (λ (z : Item). z.position) same)

  from_terminal : BeforeTerminals → (it prev : Item) (what : Taken) (x : Item) (names : List (List ℕ)) (pattern : Pattern) (label : Option (List ℕ))
      (excluded : List Pattern) →
      StandsBefore core it names (Term pattern label excluded) → IsBehind text pattern label excluded it x → Gives core text known prev what x →
      it ≡ prev
  from_terminal law it prev what x names pattern label excluded before m g =
      let s = stands_too it prev x names (Term pattern label excluded) (after_past it x _ _ m.3) (gives_after prev what x g) before in
      let h =
      gives_reading core text known (IsBehind text pattern label excluded prev) prev what x
      (law core text prev names pattern label excluded s) g in
      from_one core text it prev x
      (record { names = names; what = pattern; label = label; excluded = excluded; before = before; is = m })
      (record { names = names; what = pattern; label = label; excluded = excluded; before = s; is = h.1 })

  -- an item begins an alternative, or a rule gives it
  given_by : (items : List Item) (x : Item) (way : Way) → IsWay core text known items x way →
      (x.dot ≡ 0) ⊎ ((prev : Item) × (what : Taken) × Gives core text known prev what x)
  given_by items x way (ways.begin e) = inl e
  given_by items x way (ways.comes w prev what says gives) = inr (prev, what, gives)

  -- a way that takes a tree is by a node
  takes_tree : (items : List Item) (position : ℕ) (way : Way) (prev : Item) (what : Taken) (key : NodeKey) →
      Says core known items position way prev what → what ≡ tree key → (k : ℕ) × (d : ℕ) × (way ≡ Node k d)
  takes_tree items p w y t key (ways.pass k prev at) is = cc is
  takes_tree items p w y t key (ways.leaf k prev taken at e) is =
      let z : leaf (record { begin = prev.position; end = p }) ≡ tree key = sym e ∙ is in cc z
  takes_tree items p w y t key (ways.node k d prev other at f) is = (k, d, refl)

  -- a way to an item behind a call is by a node
  way_by_node : (items : List Item) (it : Item) (names : List (List ℕ)) (nonterminal : ℕ) (arguments : List Expression) (label : Option (List ℕ))
      (excluded : List Pattern) → StandsBefore core it names (Call nonterminal arguments label excluded) → (x : Item) (way : Way) → IsAfter it x →
      IsWay core text known items x way → (k : ℕ) × (d : ℕ) × (way ≡ Node k d)
  way_by_node items it names nonterminal arguments label excluded before x w after (ways.begin e) =
      let d = after.dot in absurd (omega (arith, d, e))
  way_by_node items it names nonterminal arguments label excluded before x w after (ways.comes way prev what says gives) =
      let stands = stands_too it prev x names (Call nonterminal arguments label excluded) after (gives_after prev what x gives) before in
      let c = gives_calls prev what x names nonterminal arguments label excluded gives stands in
      let b = gives_call prev what x c.0 c.1 c.2 gives c.3 in
      takes_tree items x.position way prev what (record { instance = c.0; end = b.end }) says b.takes

module _ (core : List Nonterminal) (text : Input) (s : Found) (trail : Trail) (taken : List Item) (follows : FollowTrail core text s trail taken) where
  -- an item behind a call was found by a node
  pub found_by_node : (it : Item) (names : List (List ℕ)) (nonterminal : ℕ) (arguments : List Expression) (label : Option (List ℕ))
      (excluded : List Pattern) → StandsBefore core it names (Call nonterminal arguments label excluded) → (x : Item) (bound : List Value) (end : ℕ) →
      x ≡ past it bound end → (k : ℕ) → slice_get (found_in s) k ≡ Some x → IsNodeAt trail.ways.firsts k
  found_by_node it names nonterminal arguments label excluded before x bound end is k at =
      let lt = slice_get_within (found_in s) k x at in
      let way = get_within trail.ways.firsts k (let e = follows.numbered in omega (arith, lt, e)) in
      let node =
      way_by_node core text (Contains taken) (found_in s) it names nonterminal arguments label excluded before x way.0
      (after_past core text (Contains taken) it x bound end is) (follows.sound way.0 x (trails.here k at (ways.found way.1))) in
      (node.0, node.1, way.1 ∙ ap Some node.2)

module _ (core : List Nonterminal) (text : Input) (s : Found) (trail : Trail) (taken : List Item) (follows : FollowTrail core text s trail taken)
    (it : Item)
    (not_yet : Contains taken it → ⊥) where
  -- a found item behind a step comes from a taken one
  given_found : (x : Item) (n : ℕ) → x.dot ≡ suc n → Contains (found_in s) x → (prev : Item) × (what : Taken) ×
      Gives core text (Contains taken) prev what x
  given_found x n dot c =
      let at = at_from_contains (found_in s) x c in
      let lt = slice_get_within (found_in s) at.0 x at.1 in
      let way = get_within trail.ways.firsts at.0 (let e = follows.numbered in omega (arith, lt, e)) in
      ⊎_elim (λ (h : x.dot ≡ 0). absurd (omega (arith, h, dot)))
      (λ (h : (prev : Item) × (what : Taken) × Gives core text (Contains taken) prev what x). h)
      (given_by core text (Contains taken) (found_in s) x way.0 (follows.sound way.0 x (trails.here at.0 at.1 (ways.found way.1))))

  -- what gives is known
  known_by : (x prev : Item) (what : Taken) → Gives core text (Contains taken) prev what x → Contains taken prev
  known_by x p w (given.test prev ns f y k b holds is) = k
  known_by x p w (given.bind prev ns other f v y k b has is) = k
  known_by x p w (given.terminal prev ns other l f j t y k b m free i is) = k
  known_by x p w (given.return prev done l f key y k h c q free is) = k

  none_found : (x : Item) (n : ℕ) → x.dot ≡ suc n → ((prev : Item) (what : Taken) → Gives core text (Contains taken) prev what x → it ≡ prev) →
      Contains (found_in s) x → ⊥
  none_found x n dot one c =
      let g = given_found x n dot c in
      not_yet (subst (Contains taken) (sym (one g.0 g.1 g.2)) (known_by x g.0 g.1 g.2))

  -- what is behind the item that is taken next isn't found
  pub new_test : BeforeTests → (names : List (List ℕ)) (e : Expression) → StandsBefore core it names (Test e) → Unfound s (IsBehindTest text names e it)
  new_test law names e before x m c =
      none_found x it.dot (ap (λ (z : Item). z.dot) m.1) (λ prev what g. from_test core text (Contains taken) law it prev what x names e before m g) c

  pub new_bind : BeforeBinds → (names : List (List ℕ)) (name : List ℕ) (e : Expression) → StandsBefore core it names (Bind name e) →
      Unfound s (IsBehindBind text names e it)
  new_bind law names name e before x m c =
      none_found x it.dot (ap (λ (z : Item). z.dot) m.2) (λ prev what g. from_bind core text (Contains taken) law it prev what x names name e before m g) c

  pub new_terminal : BeforeTerminals → (names : List (List ℕ)) (pattern : Pattern) (label : Option (List ℕ)) (excluded : List Pattern) →
      StandsBefore core it names (Term pattern label excluded) → Unfound s (IsBehind text pattern label excluded it)
  new_terminal law names pattern label excluded before x m c =
      none_found x it.dot (ap (λ (z : Item). z.dot) m.3)
      (λ prev what g. from_terminal core text (Contains taken) law it prev what x names pattern label excluded before m g) c
