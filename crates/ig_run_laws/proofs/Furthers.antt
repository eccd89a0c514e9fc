-- An event in which an item is complete where its node had a complete item before.
use Rattle.std.proofs.Common.{◌≡◌, ◌⊎◌, ⊎_elim, ℕ, List, [], ◌∷◌, Some, Contains, refl, sym, ap, ◌∙◌, subst, slice_get}
use Rattle.std.proofs.lemmas.Option.{same_Some}
use Rattle.std.proofs.lemmas.List.Elements.{Contains-append_left, Contains-append_right}
use Rattle.ig_text.specs.Input.{Input}
use Rattle.ig_text.proofs.Lists.{in_pushed, it_is_in}
use Rattle.ig_item.specs.Gives as given
use Rattle.ig_item.specs.Gives.{Taken, Gives}
use Rattle.ig_item.specs.Items as items
use Rattle.ig_item.specs.Items.{Item, Follows, IsComplete, MatchesNone, past, span_of}
use Rattle.ig_item.specs.Step.{Test, Bind, Term}
use Rattle.ig_item.specs.Ways as ways
use Rattle.ig_item.specs.Ways.{WayLists, WayTo}
use Rattle.ig_item.specs.declared.core_grammar.Nonterminal.{Nonterminal}
use Rattle.ig_item.specs.declared.ways.Way.{Way}
use Rattle.ig_item.specs.declared.ways.FurtherEnd.{FurtherEnd}
use Rattle.ig_queue.specs.declared.ticket.Ticket.{Ticket}
use Rattle.ig_run_laws.specs.AfterBy.{AfterBy}
use Rattle.ig_run_laws.specs.Finding.{Finding, IsTaken, Takes, with_end, with_waiting}
use Rattle.ig_run_laws.specs.Laws.{EndsKeep}
use Rattle.ig_run_laws.specs.Rules.{IsCaller}
use Rattle.ig_run_laws.specs.Run.{IsRun, IsWhole}
use Rattle.ig_run_laws.specs.Stacks.{Node, HasPop, pop}
use Rattle.ig_run_laws.specs.Trail.{HasTrail, IsFurtherNamed}
use Rattle.ig_run_laws.proofs.After.{IsDone, done_of, calls_of}
use Rattle.ig_run_laws.proofs.Events as events
use Rattle.ig_run_laws.proofs.Forms.{ends_meet_edges}
use Rattle.ig_run_laws.proofs.Known.{IsKnownToo}
use Rattle.ig_run_laws.proofs.Meeting.{end_more, one_pop, stay}
use Rattle.ig_run_laws.proofs.Steps.{not_both, ends_call_nothing}
use Rattle.ig_run_laws.proofs.Trails.{same_end, way_on}

module _ (core : List Nonterminal) (text : Input) (a : Finding) (nodes : List Node) (rest : List Ticket) (t : Ticket) (it : Item) (done : ℕ)
    (whole : IsWhole core text a nodes) (w : Takes a rest t it) (complete : IsComplete core it)
    (has : HasPop nodes it.instance (pop it.position done)) where
  abbrev known : Item → Type 0
  known = IsTaken a.items a.waiting

  abbrev wider : Item → Type 0
  wider = IsTaken a.items rest

  abbrev lists : WayLists
  lists = (with_end (with_waiting a rest) done t.number).lists

  abbrev end_now : FurtherEnd
  end_now = record { first = done; item = t.number }

  too : IsKnownToo known wider a.items it t.number
  too = events.known_too core text a nodes rest t it whole w

  -- the complete item that was there
  other : IsDone core known a.items it.instance (pop it.position done)
  other = done_of core text known a.items nodes whole.stacks it.instance (pop it.position done) has

  -- nothing new follows
  again : (way : Way) (x : Item) → AfterBy core text a.items nodes it t.number way x → Follows core text known x
  again way x m =
      let q = (ends_meet_edges core text a.items nodes it t.number complete way x).0 m in
      let e = (whole.stacks.edges q.2.0 q.2.1 q.0).0 q.2.3 in
      let same : e.item ≡ q.1 = same_Some e.item q.1 (sym e.there ∙ q.3) in
      let r = q.5 in
      items.return q.1 other.item r.label r.excluded x (subst known same e.is_known) other.is_known
      (calls_of core text q.1 it.instance other.item.instance it.position x r other.of) other.complete
      (subst (MatchesNone text r.excluded q.1.position) (sym other.ends) r.free)
      (subst (λ (z : ℕ). x ≡ past q.1 (span_of r.label q.1.position z) z) (sym other.ends) r.is)

  runs_on : IsRun core text a.items rest
  runs_on =
      record {
        once = whole.run.once;
        tickets = λ u c. whole.run.tickets u ((w.rest u).0 c).0;
        exact = λ x. (
          λ c. events.old_follow core text a nodes rest t it whole w x c,
          λ f. ⊎_elim (λ (h : Contains a.items x). h)
              (λ (h : (way : Way) × AfterBy core text a.items nodes it t.number way x). (whole.run.exact x).1 (again h.0 x h.1))
              (events.follows_or core text a nodes rest t it whole w x f),
        );
        reachable = whole.run.reachable;
      }

  -- no rule gives more from more known ones
  gives_back : (prev : Item) (taken : Taken) (x : Item) → Gives core text wider prev taken x → Gives core text known prev taken x
  gives_back p v y (given.test prev names e x k before holds f) =
      ⊎_elim (λ (h : known prev). given.test prev names e x h before holds f)
      (λ (h : prev ≡ it).
      absurd (not_both core text it names (Test e) (subst (λ (z : Item). items.StandsBefore core z names (Test e)) h before) complete))
      (too.or prev k)
  gives_back p v y (given.bind prev names name e u x k before holds f) =
      ⊎_elim (λ (h : known prev). given.bind prev names name e u x h before holds f)
      (λ (h : prev ≡ it).
      absurd (not_both core text it names (Bind name e) (subst (λ (z : Item). items.StandsBefore core z names (Bind name e)) h before) complete))
      (too.or prev k)
  gives_back p v y (given.terminal prev names what label excluded j taken x k before matches free e f) =
      ⊎_elim (λ (h : known prev). given.terminal prev names what label excluded j taken x h before matches free e f)
      (λ (h : prev ≡ it).
      absurd (not_both core text it names (Term what label excluded)
      (subst (λ (z : Item). items.StandsBefore core z names (Term what label excluded)) h before) complete))
      (too.or prev k)
  gives_back p v y (given.return prev after label excluded key x k l calls completes free f) =
      ⊎_elim
      (λ (h : known prev).
      ⊎_elim (λ (i : known after). given.return prev after label excluded key x h i calls completes free f)
      (λ (i : after ≡ it).
      given.return prev other.item label excluded key x h other.is_known calls
      (record {
        complete = other.complete;
        instance = other.of ∙ ap (λ (z : Item). z.instance) (sym i) ∙ completes.instance;
        end = other.ends ∙ ap (λ (z : Item). z.position) (sym i) ∙ completes.end;
      }) free f)
      (too.or after l))
      (λ (h : prev ≡ it).
      absurd (ends_call_nothing core text it key.instance complete
      (subst (λ (z : Item). IsCaller core text z key.instance) h (record { label = label; excluded = excluded; calls = calls }))))
      (too.or prev k)

  to_back : (k : ℕ) (way : Way) → WayTo lists k way → WayTo a.lists k way
  to_back k way (ways.found at) = ways.found at
  to_back k way (ways.again more c e is) = ways.again more c e is

  to_forth : (k : ℕ) (way : Way) → WayTo a.lists k way → WayTo lists k way
  to_forth k way (ways.found at) = ways.found at
  to_forth k way (ways.again more c e is) = ways.again more c e is

  further_on : (end : FurtherEnd) → IsFurtherNamed core known a.items nodes end → IsFurtherNamed core wider a.items nodes end
  further_on end f =
      record {
        key = f.key;
        name = f.name;
        further = end_more core known wider a.items a.items f.key f.key end.item too.still (λ j y at. at) refl f.further;
        other = f.other;
      }

  further_now : IsFurtherNamed core wider a.items nodes end_now
  further_now =
      record {
        key = record { instance = it.instance; end = it.position };
        name = has;
        further = record {
          item = it;
          there = w.at;
          is_known = too.is_known;
          completes = record { complete = complete; instance = refl; end = refl };
        };
        other = λ e.
            too.new (subst known (same_Some other.item it (sym other.there ∙ ap (slice_get a.items) (sym e) ∙ w.at)) other.is_known);
      }

  end_back : (end : FurtherEnd) → IsFurtherNamed core wider a.items nodes end → Contains lists.ends end
  end_back end f =
      ⊎_elim
      (λ (h : known f.further.item).
      Contains-append_left a.lists.ends (end_now ∷ []) end
      ((whole.trail.ends end).1
      (record {
        key = f.key;
        name = f.name;
        further = record { item = f.further.item; there = f.further.there; is_known = h; completes = f.further.completes };
        other = f.other;
      })))
      (λ (h : f.further.item ≡ it).
      let number : end.item ≡ t.number = whole.run.once end.item t.number it (f.further.there ∙ ap Some h) w.at in
      let instance : f.key.instance ≡ it.instance = sym f.further.completes.instance ∙ ap (λ (z : Item). z.instance) h in
      let position : f.key.end ≡ it.position = sym f.further.completes.end ∙ ap (λ (z : Item). z.position) h in
      let one = one_pop core text known a.items nodes whole.stacks it.instance (pop f.key.end end.first) (pop it.position done)
      (subst (λ z. HasPop nodes z (pop f.key.end end.first)) instance f.name) has position in
      Contains-append_right a.lists.ends (end_now ∷ []) end
      (subst (Contains (end_now ∷ [])) (sym (same_end end end_now (ap (λ z. z.done) one) number)) (it_is_in end_now)))
      (too.or f.further.item f.further.is_known)

  trail_on : HasTrail core text wider a.items nodes lists
  trail_on =
      record {
        number = whole.trail.number;
        there = whole.trail.there;
        sound = λ k x way at to.
            way_on a.items a.items nodes nodes (λ j y e. e) (λ key e n. n) core text known wider too.still x way
            (whole.trail.sound k x way at (to_back k way to));
        complete = λ k x prev taken at g.
            let c = whole.trail.complete k x prev taken at (gives_back prev taken x g) in
            record { way = c.way; to = to_forth k c.way c.to; says = c.says };
        ends = λ end. (
          λ c.
              ⊎_elim (λ (h : Contains a.lists.ends end). further_on end ((whole.trail.ends end).0 h))
              (λ (h : end ≡ end_now). subst (IsFurtherNamed core wider a.items nodes) (sym h) further_now)
              (in_pushed a.lists.ends end_now end c),
          end_back end,
        );
      }

  pub end_kept : IsWhole core text (with_end (with_waiting a rest) done t.number) nodes
  end_kept =
      record {
        run = runs_on;
        stacks = stay core text known wider a.items it t.number done nodes whole.stacks whole.have_nodes too complete has;
        have_nodes = whole.have_nodes;
        trail = trail_on;
      }

pub ends_keep : EndsKeep
ends_keep core text a nodes rest t it done whole w complete has = end_kept core text a nodes rest t it done whole w complete has
