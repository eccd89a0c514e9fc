-- Items behind calls, of a chain of callers.
use Rattle.std.proofs.Common.{◌≡◌, ◌⊎◌, ⊎_elim, inl, inr, ℕ, zero, suc, ◌-◌, ◌<◌, List, [], ◌∷◌, ◌++◌, Some, Option, length, Contains, refl, sym, ap, ◌∙◌, subst, arith, slice_get, append_assoc}
use Rattle.std.specs.Prelude.{IsTrue, Result, Ok, Err, option_and_then, slice_index_or}
use Rattle.std.proofs.lemmas.List.{append-nil}
use Rattle.std.proofs.lemmas.List.Elements.{Contains-append_cases, Contains-append_left, Contains-append_right}
use Rattle.std.proofs.lemmas.Option.{same_Some, slice_get_within, get_or_from_slice_get}
use Rattle.ig_text.specs.Input.{Input}
use Rattle.ig_text.specs.declared.pattern.Pattern.{Pattern}
use Rattle.ig_text.proofs.Lists.{contains_from_at, it_is_in, contains_one, none_in_nil}
use Rattle.ig_expr.specs.Expression.{Expression}
use Rattle.ig_item.specs.Step.{Step, Call}
use Rattle.ig_item.specs.View.{step_of}
use Rattle.ig_item.specs.declared.step.Step as step
use Rattle.ig_item.specs.Core.{IsAlternative, alternative_at, numbered}
use Rattle.ig_item.specs.Items.{Item, StandsBefore, MatchesNone, past, span_of}
use Rattle.ig_item.specs.declared.core_grammar.Nonterminal.{Nonterminal}
use Rattle.ig_item.specs.declared.core_grammar.CoreAlt.{CoreAlt}
use Rattle.ig_item.specs.declared.items.Item as stored
use Rattle.ig_item.specs.declared.run_fault.RunFault.{RunFault}
use Rattle.ig_item.specs.WellKinded.{NoneTwice}
use Rattle.ig_item.specs.declared.ways.Way.{Way}
use Rattle.ig_item.specs.declared.ways.Way.TheVariants.{Node}
use Rattle.ig_plain.specs.declared.found.Found.{Found}
use Rattle.ig_plain.specs.declared.trail.Trail.{Trail}
use Rattle.ig_run_moves.specs.declared.waiting.Caller.{Caller}
use Rattle.ig_plain.specs.Found.{means, Named, Adds}
use Rattle.ig_run_moves.specs.Rules.{step_at, IsPastCall}
use Rattle.ig_plain.specs.Rules.{StandsAtBareCall, StandsAtCall, IsReturn}
use Rattle.ig_plain.specs.Run as run
use Rattle.ig_plain.specs.Run.{Chains, IsChainOf, IsReturnToOne}
use Rattle.ig_plain.specs.Trail.{AreKnown, By, ComeByNodes, IsIndexed, IsReturnBy, Records}
use Rattle.ig_plain.proofs.Growth.{means_grown, named_grown, grows_weaker}
use Rattle.ig_plain.proofs.Additions.{adds_nothing, adds_alike, adds_then}
use Rattle.ig_plain.proofs.Recording.{records_nothing, records_alike, records_same, records_then}
use Rattle.ig_plain.proofs.Nodes.{ways_numbered, by_nodes_on}
use Rattle.ig_plain.proofs.Following.{one_step}

-- an alternative's steps, looked up
pub alternative_there : (core : List Nonterminal) (n a : ℕ) (nonterminal : Nonterminal) (alternative : CoreAlt) →
    IsAlternative core n a nonterminal alternative → alternative_at core n a ≡ Some alternative
alternative_there core n a nonterminal alternative h =
    ap (option_and_then (λ m. numbered m.alternatives a)) h.there ∙ h.has

pub step_there : (core : List Nonterminal) (it : Item) (names : List (List ℕ)) (step : Step) → StandsBefore core it names step →
    step_at core it.instance.nonterminal it.alternative it.dot ≡ Some step
step_there core it names step b =
    ap (option_and_then (λ m. slice_get m.steps it.dot)) (alternative_there core it.instance.nonterminal it.alternative b.nonterminal b.alternative b.has) ∙ b.next

-- the item after the call, of that label and those excluded patterns
module _ (core : List Nonterminal) (text : Input) (it : Item) (end callee : ℕ) (arguments : List Expression) (label : Option (List ℕ))
    (excluded : List Pattern) (names : List (List ℕ)) (before : StandsBefore core it names (Call callee arguments label excluded)) where
  -- these are the items after the call, whatever names it goes by
  pub into_return : (x : Item) → IsPastCall text label excluded end it x → IsReturn core text it end x
  into_return x m =
      record {
        call = record { names = names; callee = callee; arguments = arguments; label = label; excluded = excluded; before = before };
        free = m.0;
        is = m.1;
      }

  from_return : (x : Item) → IsReturn core text it end x → IsPastCall text label excluded end it x
  from_return x m =
      let steps =
      one_step core text it m.call.names names (Call m.call.callee m.call.arguments m.call.label m.call.excluded)
      (Call callee arguments label excluded) m.call.before before in
      let l : m.call.label ≡ label = cc steps in
      let e : m.call.excluded ≡ excluded = cc steps in (
        subst (λ (z : List Pattern). MatchesNone text z it.position end) e m.free,
        m.is ∙ ap (λ (z : Option (List ℕ)). past it (span_of z it.position end) end) l,
      )

  pub return_alike : (budget : ℕ) (a b : Found) (r : Result (Unit {0}) RunFault) → Adds end (IsPastCall text label excluded end it) budget a b r →
      Adds end (IsReturn core text it end) budget a b r
  return_alike budget a b r d = adds_alike end (IsPastCall text label excluded end it) (IsReturn core text it end) budget a b r into_return from_return d

  pub records_return : (way : Way) (a b : Found) (t u : Trail) → Records (By way (IsPastCall text label excluded end it)) a b t u →
      Records (By way (IsReturn core text it end)) a b t u
  records_return way a b t u r = records_same way (IsPastCall text label excluded end it) (IsReturn core text it end) a b t u into_return from_return r

-- how many cells there are from a place + 1 on; none where that is 0
abbrev pub remaining : ℕ → ℕ → ℕ
remaining n zero = 0
remaining n (suc k) = n - k

less_onward : (n k next : ℕ) → k < n → (next ≡ 0) ⊎ (suc k < next) → remaining n next < remaining n (suc k)
less_onward n k zero lt h = omega (arith, lt)
less_onward n k (suc j) lt h = ⊎_elim (λ (e : suc j ≡ 0). absurd (omega (arith, e))) (λ (l : suc k < suc j). omega (arith, l, lt)) h

-- the first of a chain
pub record Heads (cells : List Caller) (k : ℕ) (xs : List stored.Item) : Type 0 where
  pub cell : Caller
  pub rest : List stored.Item
  pub there : slice_get cells k ≡ Some cell
  pub behind : (cell.next ≡ 0) ⊎ (suc k < cell.next)
  pub chained : Chains cells cell.next rest
  pub is : xs ≡ cell.item ∷ rest

pub heads : (cells : List Caller) (head : ℕ) (xs : List stored.Item) → Chains cells head xs → (k : ℕ) → head ≡ suc k → Heads cells k xs
heads cells head xs run.none k e = cc
heads cells head xs (run.more j cell ys at behind c) k e =
    let same : j ≡ k = omega (arith, e) in
    record {
      cell = cell;
      rest = ys;
      there = ap (slice_get cells) (sym same) ∙ at;
      behind = subst (λ (n : ℕ). (cell.next ≡ 0) ⊎ (suc n < cell.next)) same behind;
      chained = c;
      is = refl;
    }

pub empties : (cells : List Caller) (head : ℕ) (xs : List stored.Item) → Chains cells head xs → head ≡ 0 → xs ≡ []
empties cells head xs run.none e = refl
empties cells head xs (run.more j cell ys at behind c) e = cc

-- a chain is one
pub one_chain : (cells : List Caller) (head : ℕ) (xs : List stored.Item) → Chains cells head xs → (ys : List stored.Item) → Chains cells head ys → xs ≡ ys
one_chain cells head xs run.none ys d = sym (empties cells 0 ys d refl)
one_chain cells head xs (run.more k cell us at behind c) ys d =
    let h = heads cells (suc k) ys d k refl in
    let same : cell ≡ h.cell = same_Some cell h.cell (sym at ∙ h.there) in
    let rest : us ≡ h.rest = one_chain cells cell.next us c h.rest (subst (λ (z : Caller). Chains cells z.next h.rest) (sym same) h.chained) in
    ap (λ (z : Caller). z.item ∷ us) same ∙ ap (λ (z : List stored.Item). h.cell.item ∷ z) rest ∙ sym h.is

-- x came about from one of these callers
abbrev pub IsVisit : List Nonterminal → Input → ℕ → ℕ → Found → List stored.Item → Way → Item → Type 0
IsVisit core text done end a ys way x =
    (y : stored.Item) × Contains ys y × IsReturn core text (means a y) end x × (number : ℕ) ×
    (slice_get (a.done.items ++ a.here.items) number ≡ Some y) × (way ≡ Node number done)

-- how far a walk along a chain has come
pub record Walks (core : List Nonterminal) (text : Input) (cells : List Caller) (head done end budget : ℕ) (a b : Found) (t u : Trail) (at : ℕ) :
    Type 0 where
  pub visited : List stored.Item
  pub rest : List stored.Item
  pub whole : Chains cells head (visited ++ rest)
  pub chained : Chains cells at rest
  pub adds : Adds end (λ x. (y : stored.Item) × Contains visited y × IsReturn core text (means a y) end x) budget a b (Ok tt)
  pub ways : Records (IsVisit core text done end a visited) a b t u

module _ (core : List Nonterminal) (text : Input) (cells : List Caller) (head done end budget : ℕ) (a : Found) (t : Trail)
    (chain : IsChainOf core cells head a) (known : AreKnown core a cells) (once : NoneTwice (a.done.items ++ a.here.items)) where
  abbrev Visited : List stored.Item → Item → Type 0
  Visited ys x = (y : stored.Item) × Contains ys y × IsReturn core text (means a y) end x

  pub walk_starts : Walks core text cells head done end budget a a t t head
  walk_starts =
      record {
        visited = [];
        rest = chain.chain;
        whole = chain.chained;
        chained = chain.chained;
        adds = adds_nothing end (Visited []) budget a (λ x m. absurd (none_in_nil m.0 m.1));
        ways = records_nothing (IsVisit core text done end a []) a t (λ w x m. none_in_nil m.0 m.1);
      }

  module _ (b : Found) (u : Trail) (at k : ℕ) (w : Walks core text cells head done end budget a b t u at) (is : at ≡ suc k) where
    pub here : Heads cells k w.rest
    here = heads cells at w.rest w.chained k is

    pub in_chain : Contains chain.chain here.cell.item
    in_chain =
        subst (λ (z : List stored.Item). Contains z here.cell.item) (one_chain cells head (w.visited ++ w.rest) w.whole chain.chain chain.chained)
        (Contains-append_right w.visited w.rest here.cell.item
        (subst (λ (z : List stored.Item). Contains z here.cell.item) (sym here.is) (Contains-append_left (here.cell.item ∷ []) here.rest here.cell.item (it_is_in here.cell.item))))

    pub means_here : means b here.cell.item ≡ means a here.cell.item
    means_here = means_grown end (Visited w.visited) a b here.cell.item w.adds.grows (chain.named here.cell.item in_chain)

    pub caller_named : Named b here.cell.item
    caller_named = named_grown end (Visited w.visited) a b here.cell.item w.adds.grows (chain.named here.cell.item in_chain)

    pub caller_calls : StandsAtCall core (means b here.cell.item)
    caller_calls = subst (StandsAtCall core) (sym means_here) (chain.calls here.cell.item in_chain)

    caller_bare : IsTrue here.cell.is_bare → StandsAtBareCall core (means b here.cell.item)
    caller_bare e =
        subst (StandsAtBareCall core) (sym means_here) ((known here.cell (contains_from_at cells k here.cell here.there)).bare e)

    -- what is behind it was found by nodes
    pub by_nodes_here : IsIndexed a t → ComeByNodes a t (IsReturnToOne core text cells head end a) →
        ComeByNodes b u (IsReturn core text (means b here.cell.item) end)
    by_nodes_here i nodes x m =
        by_nodes_on (IsVisit core text done end a w.visited) (IsReturnToOne core text cells head end a) a b t u (λ way y v. (v.3, done, v.5)) w.ways
        (ways_numbered a t i) nodes x
        (record {
          chain = chain.chain;
          chained = chain.chained;
          caller = here.cell.item;
          among = in_chain;
          returns = subst (λ (z : Item). IsReturn core text z end x) means_here m;
        })

    pub walks_on : (c : Found) (r : Result (Unit {0}) RunFault) → Adds end (IsReturn core text (means b here.cell.item) end) budget b c r →
        Adds end (Visited (w.visited ++ here.cell.item ∷ [])) budget a c r
    walks_on c r d =
        adds_then end (Visited (w.visited ++ here.cell.item ∷ [])) (Visited w.visited) (IsReturn core text (means b here.cell.item) end) budget a b c r
        (λ x m. (m.0, Contains-append_left w.visited (here.cell.item ∷ []) m.0 m.1, m.2))
        (λ x m. (
          here.cell.item,
          Contains-append_right w.visited (here.cell.item ∷ []) here.cell.item (it_is_in here.cell.item),
          subst (λ (z : Item). IsReturn core text z end x) means_here m,
        ))
        (λ x m.
        ⊎_elim (λ (h : Contains w.visited m.0). inl (m.0, h, m.2))
        (λ (h : Contains (here.cell.item ∷ []) m.0).
        inr (subst (λ (z : Item). IsReturn core text z end x) (ap (means a) (contains_one here.cell.item m.0 h) ∙ sym means_here) m.2))
        (Contains-append_cases w.visited (here.cell.item ∷ []) m.0 m.1)) w.adds d

    -- its number is the one place at which it stands
    one_number : (m : ℕ) (y : stored.Item) → slice_get (a.done.items ++ a.here.items) m ≡ Some y → y ≡ here.cell.item → m ≡ here.cell.number
    one_number m y at_m e =
        once m here.cell.number here.cell.item (at_m ∙ ap Some e) (known here.cell (contains_from_at cells k here.cell here.there)).numbered

    records_on : (c : Found) (v : Trail) → Records (By (Node here.cell.number done) (IsReturn core text (means b here.cell.item) end)) b c u v →
        Records (IsVisit core text done end a (w.visited ++ here.cell.item ∷ [])) a c t v
    records_on c v r =
        records_then (IsVisit core text done end a (w.visited ++ here.cell.item ∷ [])) (IsVisit core text done end a w.visited)
        (By (Node here.cell.number done) (IsReturn core text (means b here.cell.item) end)) a b c t u v w.ways r
        (λ way x m. (m.0, Contains-append_left w.visited (here.cell.item ∷ []) m.0 m.1, m.2, m.3, m.4, m.5))
        (λ way x m. (
          here.cell.item,
          Contains-append_right w.visited (here.cell.item ∷ []) here.cell.item (it_is_in here.cell.item),
          subst (λ (z : Item). IsReturn core text z end x) means_here m.1,
          here.cell.number,
          (known here.cell (contains_from_at cells k here.cell here.there)).numbered,
          m.0,
        ))
        (λ way x m.
        ⊎_elim (λ (h : Contains w.visited m.0). inl (m.0, h, m.2, m.3, m.4, m.5))
        (λ (h : Contains (here.cell.item ∷ []) m.0).
        let same : m.0 ≡ here.cell.item = contains_one here.cell.item m.0 h in
        inr (
          m.5 ∙ ap (λ (z : ℕ). Node z done) (one_number m.3 m.0 m.4 same),
          subst (λ (z : Item). IsReturn core text z end x) (ap (means a) same ∙ sym means_here) m.2,
        ))
        (Contains-append_cases w.visited (here.cell.item ∷ []) m.0 m.1))

    pub walk_goes : (c : Found) (v : Trail) → Adds end (IsReturn core text (means b here.cell.item) end) budget b c (Ok tt) →
        Records (By (Node here.cell.number done) (IsReturn core text (means b here.cell.item) end)) b c u v →
        Walks core text cells head done end budget a c t v here.cell.next
    walk_goes c v d r =
        record {
          visited = w.visited ++ here.cell.item ∷ [];
          rest = here.rest;
          whole = subst (Chains cells head) (ap (λ (z : List stored.Item). w.visited ++ z) here.is ∙ sym (append_assoc w.visited (here.cell.item ∷ []) here.rest)) w.whole;
          chained = here.chained;
          adds = walks_on c (Ok tt) d;
          ways = records_on c v r;
        }

    pub walk_stops : (c : Found) (f : RunFault) → Adds end (IsReturn core text (means b here.cell.item) end) budget b c (Err f) →
        Adds end (IsReturnToOne core text cells head end a) budget a c (Err f)
    walk_stops c f d =
        let e = walks_on c (Err f) d in
        record {
          grows = grows_weaker end (Visited (w.visited ++ here.cell.item ∷ [])) (IsReturnToOne core text cells head end a) a c
              (λ x m. record { chain = chain.chain; chained = chain.chained; caller = m.0; among = among m.0 m.1; returns = m.2 }) e.grows;
          has = tt;
          within = tt;
          fault = e.fault;
        }
      where
        among : (y : stored.Item) → Contains (w.visited ++ here.cell.item ∷ []) y → Contains chain.chain y
        among y c =
            ⊎_elim
            (λ (h : Contains w.visited y).
            subst (λ (z : List stored.Item). Contains z y) (one_chain cells head (w.visited ++ w.rest) w.whole chain.chain chain.chained)
            (Contains-append_left w.visited w.rest y h))
            (λ (h : Contains (here.cell.item ∷ []) y). subst (Contains chain.chain) (sym (contains_one here.cell.item y h)) in_chain)
            (Contains-append_cases w.visited (here.cell.item ∷ []) y c)

    -- the same of the cell that is read there
    module _ (d : Caller) where
      abbrev read : Caller
      read = slice_index_or cells k d

      read_is : slice_index_or cells k d ≡ here.cell
      read_is = get_or_from_slice_get cells k here.cell d here.there

      pub read_within : k < length cells
      read_within = slice_get_within cells k here.cell here.there

      pub read_named : Named b read.item
      read_named = subst (λ (z : Caller). Named b z.item) (sym read_is) caller_named

      pub read_calls : StandsAtCall core (means b read.item)
      read_calls = subst (λ (z : Caller). StandsAtCall core (means b z.item)) (sym read_is) caller_calls

      pub read_bare : IsTrue read.is_bare → StandsAtBareCall core (means b read.item)
      read_bare =
          subst (λ (z : Caller). IsTrue z.is_bare → StandsAtBareCall core (means b z.item)) (sym read_is) caller_bare

      pub read_by_nodes : IsIndexed a t → ComeByNodes a t (IsReturnToOne core text cells head end a) →
          ComeByNodes b u (IsReturn core text (means b read.item) end)
      read_by_nodes i nodes =
          subst (λ (z : Caller). ComeByNodes b u (IsReturn core text (means b z.item) end)) (sym read_is) (by_nodes_here i nodes)

      pub read_less : remaining (length cells) read.next < remaining (length cells) at
      read_less =
          subst (λ (z : Caller). remaining (length cells) z.next < remaining (length cells) at) (sym read_is)
          (subst (λ (n : ℕ). remaining (length cells) here.cell.next < remaining (length cells) n) (sym is)
          (less_onward (length cells) k here.cell.next read_within here.behind))

      pub read_goes : (c : Found) (v : Trail) → Adds end (IsReturn core text (means b read.item) end) budget b c (Ok tt) →
          Records (By (Node read.number done) (IsReturn core text (means b read.item) end)) b c u v →
          Walks core text cells head done end budget a c t v read.next
      read_goes c v e r =
          subst (λ (z : Caller). Walks core text cells head done end budget a c t v z.next) (sym read_is)
          (walk_goes c v (subst (λ (z : Caller). Adds end (IsReturn core text (means b z.item) end) budget b c (Ok tt)) read_is e)
          (subst (λ (z : Caller). Records (By (Node z.number done) (IsReturn core text (means b z.item) end)) b c u v) read_is r))

      pub read_stops : (c : Found) (f : RunFault) → Adds end (IsReturn core text (means b read.item) end) budget b c (Err f) →
          Adds end (IsReturnToOne core text cells head end a) budget a c (Err f)
      read_stops c f e =
          walk_stops c f (subst (λ (z : Caller). Adds end (IsReturn core text (means b z.item) end) budget b c (Err f)) read_is e)

  module _ (b : Found) (u : Trail) (at : ℕ) (w : Walks core text cells head done end budget a b t u at) (is : at ≡ 0) where
    all : chain.chain ≡ w.visited
    all =
        let none : w.rest ≡ [] = empties cells at w.rest w.chained is in
        one_chain cells head chain.chain chain.chained (w.visited ++ w.rest) w.whole ∙ ap (λ (z : List stored.Item). w.visited ++ z) none ∙ append-nil w.visited

    abbrev into : (x : Item) → Visited w.visited x → IsReturnToOne core text cells head end a x
    into x m =
        record { chain = chain.chain; chained = chain.chained; caller = m.0; among = subst (λ (z : List stored.Item). Contains z m.0) (sym all) m.1; returns = m.2 }

    among : (x : Item) (m : IsReturnToOne core text cells head end a x) → Contains w.visited m.caller
    among x m = subst (λ (z : List stored.Item). Contains z m.caller) (one_chain cells head m.chain m.chained chain.chain chain.chained ∙ all) m.among

    pub walk_ends : Adds end (IsReturnToOne core text cells head end a) budget a b (Ok tt)
    walk_ends =
        adds_alike end (Visited w.visited) (IsReturnToOne core text cells head end a) budget a b (Ok tt) into
        (λ x m. (m.caller, among x m, m.returns)) w.adds

    pub records_end : Records (IsReturnBy core text cells head done end a) a b t u
    records_end =
        records_alike (IsVisit core text done end a w.visited) (IsReturnBy core text cells head done end a) a b t u
        (λ way x m. record { returns = into x (m.0, m.1, m.2); number = m.3; numbered = m.4; is = m.5 })
        (λ way x m. (m.returns.caller, among x m.returns, m.returns.returns, m.number, m.numbered, m.is)) w.ways

-- the step of the program, at the item
pub step_is : (v : step.Step) (core : List Nonterminal) (it : Item) (names : List (List ℕ)) (tree : Step) (n : ℕ) →
    StandsBefore core it names tree → Some (step_of v) ≡ step_at core n it.alternative it.dot → n ≡ it.instance.nonterminal → tree ≡ step_of v
step_is v core it names tree n before told n_is =
    same_Some tree (step_of v)
    (sym (step_there core it names tree before) ∙ ap (λ (z : ℕ). step_at core z it.alternative it.dot) (sym n_is) ∙ sym told)
