-- The ways to items, as one more item is taken.
use Rattle.std.proofs.Common.{◌≡◌, ◌⊎◌, ⊎_elim, inl, inr, ℕ, List, [], ◌∷◌, Some, Option, Contains, refl, sym, ap, ◌∙◌, subst, arith, slice_get, true}
use Rattle.std.proofs.lemmas.Option.{same_Some}
use Rattle.ig_text.specs.Input.{Input}
use Rattle.ig_text.specs.Pattern.{Matches}
use Rattle.ig_text.specs.declared.pattern.Pattern.{Pattern}
use Rattle.ig_text.proofs.Lists.{at_from_contains, contains_from_at, mapped_in}
use Rattle.ig_expr.specs.declared.value.Value.TheVariants.{Bool as truth}
use Rattle.ig_item.specs.Gives as given
use Rattle.ig_item.specs.Gives.{NodeKey, Taken, Gives, Completes, nothing, tree}
use Rattle.ig_item.specs.Induction.{gives_more}
use Rattle.ig_item.specs.Step.{Test, Bind, Term}
use Rattle.ig_item.specs.Items as items
use Rattle.ig_item.specs.Items.{Item, Follows, IsComplete, Calls, MatchesNone, past, span_of}
use Rattle.ig_item.specs.Ways as ways
use Rattle.ig_item.specs.Ways.{WayLists, WayTo, IsEnd}
use Rattle.ig_item.specs.WellKinded.{NoneTwice}
use Rattle.ig_item.specs.declared.core_grammar.Nonterminal.{Nonterminal}
use Rattle.ig_item.specs.declared.items.Instance.{Instance}
use Rattle.ig_item.specs.declared.ways.Way.{Way}
use Rattle.ig_item.specs.declared.ways.Way.TheVariants.{Pass, Leaf, Node as Tree}
use Rattle.ig_item.specs.declared.ways.FurtherEnd.{FurtherEnd}
use Rattle.ig_queue.specs.declared.ticket.Ticket.{Ticket}
use Rattle.ig_run_tables.specs.Extends.{Extends}
use Rattle.ig_run_laws.specs.AfterBy as by
use Rattle.ig_run_laws.specs.AfterBy.{AfterBy}
use Rattle.ig_run_laws.specs.Finding.{Finding, Records, IsTaken, Takes, with_waiting}
use Rattle.ig_run_laws.specs.Rules.{IsReturn}
use Rattle.ig_run_laws.specs.Run.{IsWhole}
use Rattle.ig_run_laws.specs.Stacks.{Node, HasPop, IsEndOf, IsFirstThere, IsName, Meets, keys_of, pop}
use Rattle.ig_run_laws.specs.Trail as trails
use Rattle.ig_run_laws.specs.Trail.{HasTrail, SaysNamed, IsWayNamed, CameNamed, IsFurtherNamed}
use Rattle.ig_run_laws.proofs.After.{node_of, pop_of, edge_of, done_of}
use Rattle.ig_run_laws.proofs.Events as events
use Rattle.ig_run_laws.proofs.Grown.{extends_at, extends_in, extends_cases, longer}
use Rattle.ig_run_laws.proofs.Known.{IsKnownToo}
use Rattle.ig_run_laws.proofs.Meeting.{end_more}
use Rattle.ig_run_laws.proofs.Steps.{ends_call_nothing}

-- what a rule gives follows
pub gives_follows : (core : List Nonterminal) (text : Input) (known : Item → Type 0) (prev : Item) (taken : Taken) (x : Item) →
    Gives core text known prev taken x → Follows core text known x
gives_follows core text known p w y (given.test prev names e x k before holds f) = items.test prev names e x k before holds f
gives_follows core text known p w y (given.bind prev names name e v x k before has f) = items.bind prev names name e v x k before has f
gives_follows core text known p w y (given.terminal prev names what label excluded j t x k before matches free e f) =
    items.terminal prev names what label excluded j x k before matches free f
gives_follows core text known p w y (given.return prev done label excluded key x k l calls completes free f) =
    items.return prev done label excluded x k l
    (subst (λ (z : Instance). Calls core text prev z label excluded) (sym completes.instance) calls) completes.complete
    (subst (MatchesNone text excluded prev.position) (sym completes.end) free)
    (subst (λ (z : ℕ). x ≡ past prev (span_of label prev.position z) z) (sym completes.end) f)

abbrev pub key_at : Instance → ℕ → NodeKey
key_at i e = record { instance = i; end = e }

pub same_key : (i j : Instance) (e f : ℕ) → i ≡ j → e ≡ f → key_at i e ≡ key_at j f
same_key i j e f p q = λ k. record { instance = p k; end = q k }

pub same_end : (a b : FurtherEnd) → a.first ≡ b.first → a.item ≡ b.item → a ≡ b
same_end a b p q = λ i. record { first = p i; item = q i }

-- a way stays one as the lists grow
pub way_more : (v w : WayLists) (k : ℕ) (way : Way) → Extends v.firsts w.firsts → Extends v.further w.further → WayTo v k way → WayTo w k way
way_more v w k way firsts further (ways.found at) = ways.found (extends_at v.firsts w.firsts k way firsts at)
way_more v w k way firsts further (ways.again more c item is) = ways.again more (extends_in v.further w.further more further c) item is

module _ (items longer : List Item) (nodes after : List Node)
    (keeps : (k : ℕ) (x : Item) → slice_get items k ≡ Some x → slice_get longer k ≡ Some x)
    (names : (key : NodeKey) (d : ℕ) → IsName nodes key d → IsName after key d) where
  -- what a way says stays, as items and names are added
  pub says_on : {position : ℕ} {way : Way} {prev : Item} {taken : Taken} → SaysNamed items nodes position way prev taken →
      SaysNamed longer after position way prev taken
  says_on (trails.pass k prev at) = trails.pass k prev (keeps k prev at)
  says_on (trails.leaf k prev taken at is) = trails.leaf k prev taken (keeps k prev at) is
  says_on (trails.node k d prev key at name) = trails.node k d prev key (keeps k prev at) (names key d name)

  pub way_on : (core : List Nonterminal) (text : Input) (known wider : Item → Type 0) → ((y : Item) → known y → wider y) →
      (x : Item) (way : Way) → IsWayNamed core text known items nodes x way → IsWayNamed core text wider longer after x way
  way_on core text known wider still x way (trails.begin e) = trails.begin e
  way_on core text known wider still x way (trails.comes w prev taken says gives) =
      trails.comes w prev taken (says_on says) (gives_more core text still gives)

-- an event: all that follows is recorded
module _ (core : List Nonterminal) (text : Input) (a b : Finding) (nodes after : List Node) (rest : List Ticket) (t : Ticket) (it : Item)
    (whole : IsWhole core text a nodes) (w : Takes a rest t it) (m : Meets core text it t.number nodes after)
    (first_there : IsComplete core it → IsFirstThere nodes it)
    (d : Records (AfterBy core text a.items nodes it t.number) (with_waiting a rest) b) where
  abbrev known : Item → Type 0
  known = IsTaken a.items a.waiting

  abbrev wider : Item → Type 0
  wider = IsTaken b.items b.waiting

  abbrev may : Way → Item → Type 0
  may = AfterBy core text a.items nodes it t.number

  then_too : IsKnownToo known (IsTaken a.items rest) a.items it t.number
  then_too = events.known_too core text a nodes rest t it whole w

  forth : (y : Item) → IsTaken a.items rest y → wider y
  forth = events.taken_forth core text a nodes rest t it whole w b may d

  pub too : IsKnownToo known wider a.items it t.number
  too =
      record {
        there = then_too.there;
        once = then_too.once;
        is_known = forth it then_too.is_known;
        new = then_too.new;
        still = λ y k. forth y (then_too.still y k);
        or = λ y k. then_too.or y (events.taken_back core text a nodes rest t it whole w b may d y k);
        are_found = then_too.are_found;
      }

  pub keeps : (k : ℕ) (x : Item) → slice_get a.items k ≡ Some x → slice_get b.items k ≡ Some x
  keeps k x at = extends_at a.items b.items k x d.items at

  it_at : slice_get b.items t.number ≡ Some it
  it_at = keeps t.number it w.at

  names_on : (key : NodeKey) (e : ℕ) → IsName nodes key e → IsName after key e
  names_on key e n =
      let o = node_of after key.instance
      ((m.keys key.instance).1 (inl (subst (Contains (keys_of nodes)) n.2 (mapped_in (λ (z : Node). z.key) nodes n.0 n.1)))) in
      (o.0, o.1, o.2, (m.pops o.0 o.1 (pop key.end e)).1 (inl (n.0, n.1, n.2 ∙ sym o.2, n.3)))

  abbrev own : NodeKey
  own = record { instance = it.instance; end = it.position }

  own_name : IsComplete core it → IsName after own t.number
  own_name complete =
      let o = node_of after it.instance ((m.keys it.instance).1 (inl (whole.have_nodes it (contains_from_at a.items t.number it w.at)))) in (
        o.0,
        o.1,
        o.2,
        (m.pops o.0 o.1 (pop it.position t.number)).1
            (inr (record { of = sym o.2; complete = complete; ends = refl; done = refl })),
      )

  names_or : (key : NodeKey) (e : ℕ) → IsName after key e → IsName nodes key e ⊎ (Completes core it key × (e ≡ t.number))
  names_or key e n =
      ⊎_elim (λ (o : HasPop nodes n.0.key (pop key.end e)). inl (o.0, o.1, o.2 ∙ n.2, o.3))
      (λ (o : IsEndOf core it t.number n.0.key (pop key.end e)).
      inr (record { complete = o.complete; instance = o.of ∙ n.2; end = sym o.ends }, o.done))
      ((m.pops n.0 n.1 (pop key.end e)).0 n.3)

  way_named : (way : Way) (x : Item) → may way x → IsWayNamed core text wider b.items after x way
  way_named way x (by.test names e before holds is f) =
      subst (IsWayNamed core text wider b.items after x) (sym is)
      (trails.comes (Pass t.number) it nothing (trails.pass t.number it it_at) (given.test it names e x too.is_known before holds f))
  way_named way x (by.bind names name e v before has is f) =
      subst (IsWayNamed core text wider b.items after x) (sym is)
      (trails.comes (Pass t.number) it nothing (trails.pass t.number it it_at) (given.bind it names name e v x too.is_known before has f))
  way_named way x (by.terminal names what label excluded j before matches free is f) =
      let taken : Taken = given.leaf (record { begin = it.position; end = j }) in
      subst (IsWayNamed core text wider b.items after x) (sym is)
      (trails.comes (Leaf t.number) it taken
      (trails.leaf t.number it taken it_at
      (ap (λ (z : ℕ). given.leaf (record { begin = it.position; end = z })) (sym (ap (λ (z : Item). z.position) f))))
      (given.terminal it names what label excluded j taken x too.is_known before matches free refl f))
  way_named way x (by.call callee c f is) =
      subst (IsWayNamed core text wider b.items after x) (sym is) (trails.begin (ap (λ (z : Item). z.dot) f.is))
  way_named way x (by.return callee p has r is) =
      let done = done_of core text known a.items nodes whole.stacks callee p has in
      let key : NodeKey = record { instance = callee; end = p.end } in
      subst (IsWayNamed core text wider b.items after x) (sym is)
      (trails.comes (Tree t.number p.done) it (tree key) (trails.node t.number p.done it key it_at (names_on key p.done has))
      (given.return it done.item r.label r.excluded key x too.is_known (too.still done.item done.is_known) r.calls
      (record { complete = done.complete; instance = done.of; end = done.ends }) r.free r.is))
  way_named way x (by.returned e caller complete has at r is) =
      let q = (whole.stacks.edges has.0 has.1 e).0 has.3 in
      let same : q.item ≡ caller = same_Some q.item caller (sym q.there ∙ at) in
      subst (IsWayNamed core text wider b.items after x) (sym is)
      (trails.comes (Tree e t.number) caller (tree own) (trails.node e t.number caller own (keeps e caller at) (own_name complete))
      (given.return caller it r.label r.excluded own x (too.still caller (subst known same q.is_known)) too.is_known r.calls
      (record { complete = complete; instance = refl; end = refl }) r.free r.is))

  sound : (k : ℕ) (x : Item) (way : Way) → slice_get b.items k ≡ Some x → WayTo b.lists k way →
      IsWayNamed core text wider b.items after x way
  sound k x way at to =
      ⊎_elim
      (λ (h : (slice_get a.items k ≡ Some x) × WayTo a.lists k way).
      way_on a.items b.items nodes after keeps names_on core text known wider too.still x way (whole.trail.sound k x way h.0 h.1))
      (λ (h : may way x). way_named way x h)
      (events.way_or core text a nodes rest t it whole w b may d k x way at to)

  module _ (k : ℕ) where
    abbrev Came : Item → Item → Taken → Type 0
    Came x prev taken = CameNamed b.items after b.lists k x prev taken

    once : NoneTwice b.items
    once = d.once whole.run.once

    -- what came about before still does
    came_before : (x prev : Item) (taken : Taken) → slice_get b.items k ≡ Some x → Gives core text known prev taken x → Came x prev taken
    came_before x prev taken at g =
        let j = at_from_contains a.items x ((whole.run.exact x).1 (gives_follows core text known prev taken x g)) in
        let c = whole.trail.complete j.0 x prev taken j.1 g in
        let same : j.0 ≡ k = once j.0 k x (keeps j.0 x j.1) at in
        record {
          way = c.way;
          to = subst (λ (z : ℕ). WayTo b.lists z c.way) same (way_more a.lists b.lists j.0 c.way d.firsts d.further c.to);
          says = says_on a.items b.items nodes after keeps names_on c.says;
        }

    came_now : (x prev : Item) (taken : Taken) (way : Way) → slice_get b.items k ≡ Some x → may way x →
        SaysNamed b.items after x.position way prev taken → Came x prev taken
    came_now x prev taken way at q says =
        let r = d.has way x q in
        record { way = way; to = subst (λ (z : ℕ). WayTo b.lists z way) (once r.0 k x r.1 at) r.2; says = says }

    from_it : (x prev : Item) (taken : Taken) → prev ≡ it → Came x it taken → Came x prev taken
    from_it x prev taken e c = subst (λ (z : Item). Came x z taken) (sym e) c

    -- by a complete item that is taken now
    came_back : (x prev done : Item) (label : Option (List ℕ)) (excluded : List Pattern) (key : NodeKey) → slice_get b.items k ≡ Some x →
        known prev → done ≡ it → Calls core text prev key.instance label excluded → Completes core done key →
        MatchesNone text excluded prev.position key.end → x ≡ past prev (span_of label prev.position key.end) key.end → Came x prev (tree key)
    came_back x prev done label excluded key at kp e calls completes free f =
        let same : key ≡ own =
        same_key key.instance it.instance key.end it.position (sym completes.instance ∙ ap (λ (z : Item). z.instance) e)
        (sym completes.end ∙ ap (λ (z : Item). z.position) e) in
        let complete : IsComplete core it = subst (IsComplete core) e completes.complete in
        let r : IsReturn core text prev it.instance it.position x =
        subst (λ (z : NodeKey). IsReturn core text prev z.instance z.end x) same
        (record { label = label; excluded = excluded; calls = calls; free = free; is = f }) in
        let g = edge_of core text known a.items nodes whole.stacks whole.have_nodes too.are_found prev it.instance kp
        (record { label = r.label; excluded = r.excluded; calls = r.calls }) in
        subst (λ (z : NodeKey). Came x prev (tree z)) (sym same)
        (came_now x prev (tree own) (Tree g.0 t.number) at (by.returned g.0 prev complete g.1 g.2 r refl)
        (trails.node g.0 t.number prev own (keeps g.0 prev g.2) (own_name complete)))

    -- over a call by the item that is taken now
    came_over : (x prev done : Item) (label : Option (List ℕ)) (excluded : List Pattern) (key : NodeKey) → slice_get b.items k ≡ Some x →
        prev ≡ it → wider done → Calls core text prev key.instance label excluded → Completes core done key →
        MatchesNone text excluded prev.position key.end → x ≡ past prev (span_of label prev.position key.end) key.end → Came x prev (tree key)
    came_over x prev done label excluded key at e kd calls completes free f =
        let r : IsReturn core text it key.instance key.end x =
        subst (λ (z : Item). IsReturn core text z key.instance key.end x) e
        (record { label = label; excluded = excluded; calls = calls; free = free; is = f }) in
        ⊎_elim
        (λ (h : known done).
        let p = pop_of core text known a.items nodes whole.stacks whole.have_nodes too.are_found done h completes.complete in
        let same = same_key done.instance key.instance done.position key.end completes.instance completes.end in
        let has : HasPop nodes key.instance (pop key.end p.0) =
        subst (λ (z : NodeKey). HasPop nodes z.instance (pop z.end p.0)) same p.1 in
        from_it x prev (tree key) e
        (came_now x it (tree key) (Tree t.number p.0) at (by.return key.instance (pop key.end p.0) has r refl)
        (trails.node t.number p.0 it key it_at (names_on key p.0 has))))
        (λ (h : done ≡ it).
        absurd (ends_call_nothing core text it key.instance (subst (IsComplete core) h completes.complete)
        (record { label = r.label; excluded = r.excluded; calls = r.calls })))
        (too.or done kd)

    complete : (x prev : Item) (taken : Taken) → slice_get b.items k ≡ Some x → Gives core text wider prev taken x → Came x prev taken
    complete y p v at (given.test prev names e x kp before holds f) =
        ⊎_elim (λ (h : known prev). came_before x prev nothing at (given.test prev names e x h before holds f))
        (λ (h : prev ≡ it).
        let q = subst (λ (z : Item). items.StandsBefore core z names (Test e) × items.HasValue text z names e (truth true) × (x ≡ past z [] z.position)) h
        (before, holds, f) in
        from_it x prev nothing h
        (came_now x it nothing (Pass t.number) at (by.test names e q.0 q.1 refl q.2) (trails.pass t.number it it_at)))
        (too.or prev kp)
    complete y p v at (given.bind prev names name e u x kp before has f) =
        ⊎_elim (λ (h : known prev). came_before x prev nothing at (given.bind prev names name e u x h before has f))
        (λ (h : prev ≡ it).
        let q = subst (λ (z : Item). items.StandsBefore core z names (Bind name e) × items.HasValue text z names e u × (x ≡ past z (u ∷ []) z.position)) h
        (before, has, f) in
        from_it x prev nothing h
        (came_now x it nothing (Pass t.number) at (by.bind names name e u q.0 q.1 refl q.2) (trails.pass t.number it it_at)))
        (too.or prev kp)
    complete y p v at (given.terminal prev names what label excluded j taken x kp before matches free e f) =
        ⊎_elim (λ (h : known prev). came_before x prev taken at (given.terminal prev names what label excluded j taken x h before matches free e f))
        (λ (h : prev ≡ it). from_it x prev taken h (now h)) (too.or prev kp)
      where
        now : prev ≡ it → Came x it taken
        now h =
            let q = subst (λ (z : Item). items.StandsBefore core z names (Term what label excluded) × Matches text what z.position j ×
            MatchesNone text excluded z.position j × (taken ≡ given.leaf (record { begin = z.position; end = j })) ×
            (x ≡ past z (span_of label z.position j) j)) h (before, matches, free, e, f) in
            came_now x it taken (Leaf t.number) at (by.terminal names what label excluded j q.0 q.1 q.2 refl q.4)
            (trails.leaf t.number it taken it_at
            (q.3 ∙ ap (λ (z : ℕ). given.leaf (record { begin = it.position; end = z })) (sym (ap (λ (z : Item). z.position) q.4))))
    complete y p v at (given.return prev done label excluded key x kp kd calls completes free f) =
        ⊎_elim
        (λ (h : known prev).
        ⊎_elim (λ (i : known done). came_before x prev (tree key) at (given.return prev done label excluded key x h i calls completes free f))
        (λ (i : done ≡ it). came_back x prev done label excluded key at h i calls completes free f) (too.or done kd))
        (λ (h : prev ≡ it). came_over x prev done label excluded key at h kd calls completes free f) (too.or prev kp)

  further_on : (end : FurtherEnd) → IsFurtherNamed core known a.items nodes end → IsFurtherNamed core wider b.items after end
  further_on end f =
      record {
        key = f.key;
        name = names_on f.key end.first f.name;
        further = end_more core known wider a.items b.items f.key f.key end.item too.still keeps refl f.further;
        other = f.other;
      }

  -- a known complete item of the node of the one that is taken has a pop there
  no_other : (key : NodeKey) (e : ℕ) → Completes core it key → IsName nodes key e → ⊥
  no_other key e c n =
      first_there c.complete e (n.0, n.1, n.2 ∙ sym c.instance, subst (λ (z : ℕ). Contains n.0.pops (pop z e)) (sym c.end) n.3)

  no_end : (key : NodeKey) (e : ℕ) → Completes core it key → IsEnd core known a.items key e → ⊥
  no_end key e c f =
      let p = pop_of core text known a.items nodes whole.stacks whole.have_nodes too.are_found f.item f.is_known f.completes.complete in
      let same = same_key f.item.instance key.instance f.item.position key.end f.completes.instance f.completes.end in
      no_other key p.0 c (subst (λ (z : NodeKey). HasPop nodes z.instance (pop z.end p.0)) same p.1)

  ends_or : (key : NodeKey) (e : ℕ) → IsEnd core wider b.items key e →
      IsEnd core known a.items key e ⊎ (Completes core it key × (e ≡ t.number))
  ends_or key e f =
      ⊎_elim
      (λ (h : known f.item).
      let j = at_from_contains a.items f.item (too.are_found f.item h) in
      let same : j.0 ≡ e = d.once whole.run.once j.0 e f.item (keeps j.0 f.item j.1) f.there in
      inl (record {
        item = f.item;
        there = subst (λ (z : ℕ). slice_get a.items z ≡ Some f.item) same j.1;
        is_known = h;
        completes = f.completes;
      }))
      (λ (h : f.item ≡ it).
      inr (
        subst (λ (z : Item). Completes core z key) h f.completes,
        d.once whole.run.once e t.number it (f.there ∙ ap Some h) it_at,
      ))
      (too.or f.item f.is_known)

  further_back : (end : FurtherEnd) → IsFurtherNamed core wider b.items after end → IsFurtherNamed core known a.items nodes end
  further_back end f =
      ⊎_elim
      (λ (n : IsName nodes f.key end.first).
      ⊎_elim (λ (e : IsEnd core known a.items f.key end.item). record { key = f.key; name = n; further = e; other = f.other })
      (λ (e : Completes core it f.key × (end.item ≡ t.number)). absurd (no_other f.key end.first e.0 n)) (ends_or f.key end.item f.further))
      (λ (n : Completes core it f.key × (end.first ≡ t.number)).
      ⊎_elim (λ (e : IsEnd core known a.items f.key end.item). absurd (no_end f.key end.item n.0 e))
      (λ (e : Completes core it f.key × (end.item ≡ t.number)). absurd (f.other (e.1 ∙ sym n.1))) (ends_or f.key end.item f.further))
      (names_or f.key end.first f.name)

  pub trail_on : HasTrail core text wider b.items after b.lists
  trail_on =
      record {
        number = d.numbered whole.trail.number;
        there = λ more c.
            ⊎_elim
            (λ (h : Contains a.lists.further more).
            let l = whole.trail.there more h in let n = longer a.items b.items d.items in omega (arith, l, n))
            (λ (h : Contains d.further.more more). d.there more h) (extends_cases a.lists.further b.lists.further more d.further c);
        sound = sound;
        complete = λ k x prev taken at g. complete k x prev taken at g;
        ends = λ end. (
          λ c. further_on end ((whole.trail.ends end).0 (subst (λ (z : List FurtherEnd). Contains z end) d.ends c)),
          λ f. subst (λ (z : List FurtherEnd). Contains z end) (sym d.ends) ((whole.trail.ends end).1 (further_back end f)),
        );
      }
