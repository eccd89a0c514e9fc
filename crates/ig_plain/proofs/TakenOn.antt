-- An item is taken: the ways to what follows from it are recorded.
use Rattle.ig_expr.specs.Expression.{Expression}
use Rattle.std.proofs.Common.{◌≡◌, ⊎_elim, inl, inr, ℕ, suc, ◌+◌, ◌<◌, List, [], ◌∷◌, ◌++◌, Some, Option, length, set, Contains, refl, sym, ap, ◌∙◌, subst, arith, slice_get, length-append}
use Rattle.std.specs.Prelude.{Bool, IsTrue, Result, Ok, Err, OnOk}
use Rattle.std.proofs.lemmas.List.{length-map}
use Rattle.std.proofs.lemmas.Option.{same_Some}
use Rattle.std.proofs.lemmas.List.Elements.{Contains-append_cases}
use Rattle.ig_text.specs.Input.{Input}
use Rattle.ig_text.specs.declared.pattern.Pattern.{Pattern}
use Rattle.ig_text.proofs.Lists.{contains_from_at, contains_one, none_in_nil}
use Rattle.ig_item.specs.Step.{Call}
use Rattle.ig_item.specs.Items.{Item, Calls, IsComplete, MatchesNone, past, span_of, StandsBefore}
use Rattle.ig_item.specs.Laws.{ReachableIsClosed, ItemsAreInText}
use Rattle.ig_item.specs.Gives as given
use Rattle.ig_item.specs.Gives.{NodeKey, Taken, nothing, leaf, tree, Completes, Gives}
use Rattle.ig_item.specs.Ways as ways
use Rattle.ig_item.specs.Ways.{WayLists, Says, IsWay, IsEnd, IsFirstEnd}
use Rattle.ig_item.specs.declared.core_grammar.Nonterminal.{Nonterminal}
use Rattle.ig_item.specs.declared.items.Instance.{Instance}
use Rattle.ig_item.specs.declared.items.Item as stored
use Rattle.ig_item.specs.declared.run_fault.RunFault.{RunFault}
use Rattle.ig_item.specs.declared.ways.Way.{Way}
use Rattle.ig_item.specs.declared.ways.Way.TheVariants.{Pass, Leaf, Node}
use Rattle.ig_plain.specs.declared.found.Found.{Found}
use Rattle.ig_plain.specs.declared.trail.Trail.{Trail}
use Rattle.ig_run_moves.specs.declared.waiting.Waiting.{Waiting}
use Rattle.ig_run_moves.specs.declared.waiting.Called.{Called}
use Rattle.ig_run_moves.specs.declared.waiting.Caller.{Caller}
use Rattle.ig_plain.specs.Found as found
use Rattle.ig_plain.specs.Found.{means, found_in, later_in, taken_in, instances_in, Adds, AddsTerminal, GrowsLater}
use Rattle.ig_run_laws.specs.Rules.{After}
use Rattle.ig_run_moves.specs.Rules.{IsBehind, IsPastCall, Comes, NoItem, NoCall}
use Rattle.ig_plain.specs.Rules.{IsReturn, StandsAtBareCall, StandsAtCall}
use Rattle.ig_run_moves.specs.Waiting.{called_at, lengthened, with_caller, with_end}
use Rattle.ig_plain.specs.Run as run
use Rattle.ig_plain.specs.Run.{Chains, IsRun, IsReturnToOne}
use Rattle.ig_plain.specs.Trail as trails
use Rattle.ig_plain.specs.Trail.{By, Records, RecordsTerminal, HasTrail, AreKnown, IsKnown, IsReturnBy, RecordsLater}
use Rattle.ig_plain.proofs.Extending.{extends_same}
use Rattle.ig_plain.proofs.Growth.{extends_at}
use Rattle.ig_plain.proofs.Following.{one_step, not_both}
use Rattle.ig_plain.proofs.Coming.{follows_read, gives_passing, gives_reading, gives_passed, gives_read}
use Rattle.ig_plain.proofs.Running.{means_still, taken_later}
use Rattle.ig_plain.proofs.Recording.{meant_at}
use Rattle.ig_plain.proofs.Returns.{one_chain}
use Rattle.ig_plain.proofs.Waiters.{set_cases}
use Rattle.ig_plain.proofs.Completes.{item_named, instance_at, known_called, waits}
use Rattle.ig_plain.proofs.Calls.{ends_here, there_known}
use Rattle.ig_plain.proofs.Alone.{keeps_later}
use Rattle.ig_plain.proofs.Trails.{IsGivenBack, ends_none, ends_one, first_new, more_here, more_later, more_none}
use Rattle.ig_plain.proofs.Indexing.{indexed_same}
use Rattle.ig_plain.proofs.Links.{longer_from}
use Rattle.ig_plain.proofs.Fresh.{gives_call, gives_nothing}
use Rattle.ig_plain.proofs.Onward.{Goes, EndsAlike, ends_alike_itself, goes_here, goes_still, items_once, stored_at, at_now, grow, known_now, known_still, known_on, first_now, firsts_now, goes_on, goes_unfinished}

-- each item of a chain is that of a cell
pub chain_cell : (cells : List Caller) (head : ℕ) (xs : List stored.Item) (y : stored.Item) → Chains cells head xs → Contains xs y →
    (cell : Caller) × Contains cells cell × (cell.item ≡ y)
chain_cell cells head xs y run.none c = absurd (none_in_nil y c)
chain_cell cells head xs y (run.more k cell ys at behind rest) c =
    ⊎_elim (λ (h : Contains (cell.item ∷ []) y). (cell, contains_from_at cells k cell at, sym (contains_one cell.item y h)))
    (λ (h : Contains ys y). chain_cell cells cell.next ys y rest h) (Contains-append_cases (cell.item ∷ []) ys y c)

module _ (core : List Nonterminal) (text : Input) (law : ReachableIsClosed) (budget p k : ℕ) (s : Found) (w : Waiting) (trail : Trail)
    (item : stored.Item)
    (number : ℕ) (here : item.position ≡ p) (r : IsRun core text budget p k s w) (at : slice_get s.here.items k ≡ Some item)
    (is : number ≡ length s.done.items + k) (h : HasTrail core text p k s w trail) where
  abbrev it : Item
  it = means s item

  abbrev now : List Item
  now = taken_in s k ++ it ∷ []

  there : (t : Found) → Goes s t k it → slice_get (found_in t) number ≡ Some it
  there t g = at_now core text p k s w trail item number r.taking.stored at is h t g

  is_known : Contains now it
  is_known = known_now core text p k s w trail item number r.taking.stored at is h

  -- what follows from an item before a step was added, in one way
  step_on : (may : Item → Type 0) (way : Way) (t : Found) (v : Waiting) (u : Trail) (result : Result (Unit {0}) RunFault) →
      Adds p may budget s t result →
      OnOk result (Records (By way may) s t trail u) → (IsComplete core it → ⊥) →
      (Goes s t k it → (x : Item) → may x → IsWay core text (Contains now) (found_in t) x way) →
      (Goes s t k it → (x : Item) (what : Taken) → Gives core text (Contains now) it what x → may x ×
      Says core (Contains now) (found_in t) x.position way it what) →
      AreKnown core s v.callers.items → EndsAlike w v → OnOk result (HasTrail core text p (suc k) t v u)
  step_on may way t v u (Ok o) d rec unfinished sound complete callers alike =
      let g = goes_here p k s item r.taking.stored at may t d.grows in
      goes_unfinished core text p k s w trail item number r.taking.stored at is h t g unfinished (By way may) v u
      (more_here core text s t trail u (taken_in s k) h.ways (By way may) rec) rec.ends
      (λ z x m. subst (IsWay core text (Contains now) (found_in t) x) (sym m.0) (sound g x m.1))
      (λ x what q. let c = complete g x what q in (way, (refl, c.0), c.1))
      (known_on core text p k s w trail item number r.taking.stored at is h t g v.callers.items callers) alike
  step_on may way t v u (Err f) d rec unfinished sound complete callers alike = tt

  -- an item that passes on
  pub passing_on : (passes : Item → Type 0) → Comes core text it passes NoItem NoCall ⊥ → (t : Found) (u : Trail)
      (result : Result (Unit {0}) RunFault) →
      Adds p passes budget s t result → OnOk result (Records (By (Pass number) passes) s t trail u) →
      OnOk result (HasTrail core text p (suc k) t w u)
  passing_on passes c t u result d rec =
      step_on passes (Pass number) t w u result d rec c.ending.0
      (λ g x m.
      ways.comes (Pass number) it nothing (ways.pass number it (there t g))
      (gives_passed core text (Contains now) it x is_known ((c.passing x).1 m)))
      (λ g x what q.
      let b = gives_passing core text (Contains now) passes it what x c q in
      (b.1, subst (Says core (Contains now) (found_in t) x.position (Pass number) it) (sym b.0) (ways.pass number it (there t g))))
      h.callers (ends_alike_itself w)

  -- an item that reads on
  module _ (what : Pattern) (label : Option (List ℕ)) (excluded : List Pattern)
      (c : Comes core text it NoItem (IsBehind text what label excluded it) NoCall ⊥) where
    way_behind : (t : Found) → Goes s t k it → (x : Item) → IsBehind text what label excluded it x →
        IsWay core text (Contains now) (found_in t) x (Leaf number)
    way_behind t g x m =
        ways.comes (Leaf number) it (leaf (record { begin = it.position; end = x.position }))
        (ways.leaf number it (leaf (record { begin = it.position; end = x.position })) (there t g) refl)
        (gives_read core text (Contains now) it x is_known ((c.reading x).1 m))

    says_behind : (t : Found) → Goes s t k it → (x : Item) (taken : Taken) → Gives core text (Contains now) it taken x →
        IsBehind text what label excluded it x × Says core (Contains now) (found_in t) x.position (Leaf number) it taken
    says_behind t g x taken q =
        let b = gives_reading core text (Contains now) (IsBehind text what label excluded it) it taken x c q in
        (b.1, ways.leaf number it taken (there t g) b.0)

    follows : (x : Item) → IsBehind text what label excluded it x → After core text (Contains (taken_in s k)) it x
    follows = follows_read core text it NoItem (IsBehind text what label excluded it) c (Contains (taken_in s k))

    goes_later : (x : Item) (t : Found) → IsBehind text what label excluded it x → GrowsLater p x s t → found_in t ≡ found_in s → Goes s t k it
    goes_later x t m g same =
        record {
          found = extends_same (found_in s) (found_in t) same;
          once = subst (λ (z : List Item). (i j : ℕ) (y : Item) → slice_get z i ≡ Some y → slice_get z j ≡ Some y → i ≡ j) (sym same)
              (items_once p s r.taking.stored);
          instances = (keeps_later core text law budget p k s w item here r at what label excluded c x t m g).instances;
          taken = taken_later core text law budget p k s item r.taking at x t g ((c.reading x).1 m) (follows x m);
          numbers = extends_same (s.done.items ++ s.here.items) (t.done.items ++ t.here.items)
              (ap (λ (z : List stored.Item). z ++ t.here.items) g.done ∙ ap (λ (z : List stored.Item). s.done.items ++ z) g.here);
          same = means_still core text law budget p k s item r.taking at x t g ((c.reading x).1 m) (follows x m);
        }

    -- an item before a terminal
    pub terminal_on : (t : Found) (u : Trail) (result : Result (Unit {0}) RunFault) → AddsTerminal text what label excluded budget p it s t result →
        OnOk result (RecordsTerminal text what label excluded number it s t trail u) → OnOk result (HasTrail core text p (suc k) t w u)
    terminal_on t u (Err f) d rec = tt
    terminal_on t u (Ok o) (found.here d) (trails.here rec) =
        step_on (IsBehind text what label excluded it) (Leaf number) t w u (Ok o) d rec c.ending.0
        (way_behind t) (says_behind t) h.callers (ends_alike_itself w)
    terminal_on t u (Ok o) (found.here d) (trails.later x m only rec) =
        let a = ap length rec.behind in let b = ap length d.grows.later in let n = length-map s.later.items (means s) in
        let e = length-map t.later.items (means t) in let f = length-append (later_in s) (x ∷ []) in absurd (omega (arith, a, b, n, e, f))
    terminal_on t u (Ok o) (found.later x m only d) (trails.here rec) =
        let a = ap length rec.behind in let b = ap length d.0.later in let n = length-map s.later.items (means s) in
        let e = length-map t.later.items (means t) in let f = length-append s.later.items (d.0.item ∷ []) in absurd (omega (arith, a, b, n, e, f))
    terminal_on t u (Ok o) (found.later x m only d) (trails.later y n one rec) =
        let g = goes_later x t m d.0 rec.found in
        goes_unfinished core text p k s w trail item number r.taking.stored at is h t g c.ending.0
        (By (Leaf number) (λ z. z ≡ y)) w u
        (more_later core text s t trail u (taken_in s k) h.ways number y rec) (ap (λ (z : WayLists). z.ends) rec.ways)
        (λ z x2 q.
        subst (IsWay core text (Contains now) (found_in t) x2) (sym q.0)
        (way_behind t g x2 (subst (IsBehind text what label excluded it) (sym q.1) n)))
        (λ x2 taken q. let b = says_behind t g x2 taken q in (Leaf number, (refl, one x2 b.0), b.1))
        (known_on core text p k s w trail item number r.taking.stored at is h t g w.callers.items h.callers) (ends_alike_itself w)

  -- a complete item
  module _ (complete : IsComplete core it) where
    abbrev key : NodeKey
    key = record { instance = it.instance; end = p }

    completes : Completes core it key
    completes = record { complete = complete; instance = refl; end = here }

    one_key : (other : NodeKey) → Completes core it other → other ≡ key
    one_key other q =
        let a : other.instance ≡ it.instance = sym q.instance in
        let b : other.end ≡ p = sym q.end ∙ here in
        λ i. record { instance = a i; end = b i }

    known_now_called : slice_get w.called.items item.instance ≡ Some (called_at w item.instance)
    known_now_called = known_called core text law budget p k s w item here r at

    named_at : slice_get (instances_in s) item.instance ≡ Some it.instance
    named_at = instance_at s item (item_named core text law budget p k s w item here r at)

    -- an item that was complete here before is the first one
    pub again_on : (d : ℕ) (u : Trail) → (called_at w item.instance).last_end ≡ Some p → d ≡ (called_at w item.instance).last_done →
        u.ways ≡ record trail.ways { ends = trail.ways.ends ++ record { first = d; item = number } ∷ [] } → u.later.items ≡ trail.later.items →
        u.returned ≡ trail.returned → HasTrail core text p (suc k) s w u
    again_on d u last d_is added later returned =
        let g = goes_still p k s item r.taking.stored at in
        let f : IsFirstEnd core (Contains (taken_in s k)) (found_in s) key d =
        subst (IsFirstEnd core (Contains (taken_in s k)) (found_in s) key) (sym d_is)
        (h.ends item.instance it.instance (called_at w item.instance) named_at known_now_called last) in
        goes_on core text p k s w trail item number r.taking.stored at is h s g (λ way x. ⊥) w u
        (more_none core text s s trail u (taken_in s k) h.ways refl refl (ap (λ (z : WayLists). z.firsts) added)
        (ap (λ (z : WayLists). z.further) added) later
        (indexed_same s.done.items s.done.items s.here.items s.here.items trail.ways.firsts u.ways.firsts trail.returned u.returned refl refl
        (ap (λ (z : WayLists). z.firsts) added) returned))
        (ends_one core (Contains (taken_in s k)) (Contains now) (found_in s) (found_in s) number (λ z. Completes core it z)
        (grow core text p k s w trail item number r.taking.stored at is h s g) trail.ways u.ways key d completes one_key f
        (ap (λ (z : WayLists). z.ends) added) h.ways.ends)
        (λ way x m. absurd m)
        (λ x prev what q i.
        inl (⊎_elim
        (λ (e : prev ≡ it). absurd (gives_nothing core text (Contains now) prev what x q (subst (IsComplete core) (sym e) complete)))
        (λ (b : IsGivenBack core text (taken_in s k) it prev what x).
        subst (λ (z : Taken). Gives core text (Contains (taken_in s k)) prev z x) (sym b.takes)
        (given.return prev f.end.item b.label b.excluded b.key x b.caller f.end.is_known b.calls
        (subst (Completes core f.end.item) (sym (one_key b.key b.completes)) f.end.completes) b.free b.is)) i))
        (known_on core text p k s w trail item number r.taking.stored at is h s g w.callers.items h.callers)
        (firsts_now core text p k s w trail item number r.taking.stored at is h s g w (ends_alike_itself w))

    abbrev head : ℕ
    head = (called_at w item.instance).first

    abbrev Returned : Item → Type 0
    Returned = IsReturnToOne core text w.callers.items head p s

    abbrev ReturnedBy : Way → Item → Type 0
    ReturnedBy = IsReturnBy core text w.callers.items head number p s

    module _ (apart : (called_at w item.instance).last_end ≡ Some p → ⊥) where
      -- no item of its node was complete
      none : (other : NodeKey) → Completes core it other → (d : ℕ) → IsEnd core (Contains (taken_in s k)) (found_in s) other d → ⊥
      none other q d e =
          apart ((r.waiting.ends item.instance it.instance (called_at w item.instance) named_at known_now_called).1
          (record {
            item = e.item;
            among = e.is_known;
            of = e.completes.instance ∙ sym q.instance;
            complete = e.completes.complete;
            ends = e.completes.end ∙ sym q.end ∙ here;
          }))

      module _ (t : Found) (g : Goes s t k it) where
        first : IsFirstEnd core (Contains now) (found_in t) key number
        first =
            first_new core (Contains (taken_in s k)) (Contains now) (found_in s) (found_in t) number (λ z. Completes core it z)
            (grow core text p k s w trail item number r.taking.stored at is h t g) key completes (none key completes)

        way_back : (way : Way) (x : Item) → ReturnedBy way x → IsWay core text (Contains now) (found_in t) x way
        way_back way x m =
            let waiting = waits core text law budget p k s w item here r at complete in
            let caller = m.returns.caller in
            let among = subst (λ (z : List stored.Item). Contains z caller)
            (one_chain w.callers.items head m.returns.chain m.returns.chained waiting.chain waiting.chained) m.returns.among in
            let q = waiting.callers caller among in
            let c = m.returns.returns.call in
            let steps = one_step core text (means s caller) c.names q.1.calls.names (Call c.callee c.arguments c.label c.excluded)
            (Call it.instance.nonterminal q.1.calls.arguments q.1.label q.1.excluded) c.before q.1.calls.before in
            let label : c.label ≡ q.1.label = cc steps in
            let excluded : c.excluded ≡ q.1.excluded = cc steps in
            subst (IsWay core text (Contains now) (found_in t) x) (sym m.is)
            (ways.comes (Node m.number number) (means s caller) (tree key)
            (ways.node m.number number (means s caller) key
            (extends_at (found_in s) (found_in t) m.number (means s caller) g.found (meant_at s m.number caller m.numbered)) first)
            (given.return (means s caller) it q.1.label q.1.excluded key x
            (known_still core text p k s w trail item number r.taking.stored at is h (means s caller) q.0) is_known q.1.calls completes
            (subst (λ (z : List Pattern). MatchesNone text z caller.position p) excluded m.returns.returns.free)
            (m.returns.returns.is ∙ ap (λ (z : Option (List ℕ)). past (means s caller) (span_of z caller.position p) p) label)))

        back_from : (x prev : Item) (what : Taken) → IsGivenBack core text (taken_in s k) it prev what x →
            (way : Way) × ReturnedBy way x × Says core (Contains now) (found_in t) x.position way prev what
        back_from x prev what b =
            let waiting = waits core text law budget p k s w item here r at complete in
            let e = one_key b.key b.completes in
            let calls : Calls core text prev it.instance b.label b.excluded =
            subst (λ (z : NodeKey). Calls core text prev z.instance b.label b.excluded) e b.calls in
            let a = waiting.all prev b.caller (record { label = b.label; excluded = b.excluded; calls = calls }) in
            let cell = chain_cell w.callers.items head waiting.chain a.0 waiting.chained a.1 in
            let numbered : slice_get (s.done.items ++ s.here.items) cell.0.number ≡ Some a.0 = (h.callers cell.0 cell.1).numbered ∙ ap Some cell.2 in
            let call : StandsAtCall core prev =
            record {
              names = calls.names;
              callee = it.instance.nonterminal;
              arguments = calls.arguments;
              label = b.label;
              excluded = b.excluded;
              before = calls.before;
            } in
            let end : b.key.end ≡ p = ap (λ (z : NodeKey). z.end) e in
            let back : IsReturn core text prev p x =
            record {
              call = call;
              free = subst (λ (n : ℕ). MatchesNone text b.excluded prev.position n) end b.free;
              is = b.is ∙ ap (λ (n : ℕ). past prev (span_of b.label prev.position n) n) end;
            } in (
              Node cell.0.number number,
              record {
                returns = record {
                  chain = waiting.chain;
                  chained = waiting.chained;
                  caller = a.0;
                  among = a.1;
                  returns = subst (λ (z : Item). IsReturn core text z p x) (sym a.2) back;
                };
                number = cell.0.number;
                numbered = numbered;
                is = refl;
              },
              subst (Says core (Contains now) (found_in t) x.position (Node cell.0.number number) prev) (sym (b.takes ∙ ap tree e))
                  (ways.node cell.0.number number prev key
                  (extends_at (found_in s) (found_in t) cell.0.number prev g.found (meant_at s cell.0.number a.0 numbered ∙ ap Some a.2)) first),
            )

      -- it is the first one that is complete here
      pub completes_on : (t : Found) (v : Waiting) (u : Trail) (result : Result (Unit {0}) RunFault) → v.callers.items ≡ w.callers.items →
          v.called.items ≡ set w.called.items item.instance (with_end (called_at w item.instance) p number) →
          Adds p Returned budget s t result → OnOk result (Records ReturnedBy s t trail u) → OnOk result (HasTrail core text p (suc k) t v u)
      completes_on t v u (Err f) cells called d rec = tt
      completes_on t v u (Ok o) cells called d rec =
          let g = goes_here p k s item r.taking.stored at Returned t d.grows in
          goes_on core text p k s w trail item number r.taking.stored at is h t g ReturnedBy v u
          (more_here core text s t trail u (taken_in s k) h.ways ReturnedBy rec)
          (ends_none core (Contains (taken_in s k)) (Contains now) (found_in s) (found_in t) number (λ z. Completes core it z)
          (grow core text p k s w trail item number r.taking.stored at is h t g) trail.ways u.ways rec.ends none h.ways.ends)
          (way_back t g)
          (λ x prev what q i.
          inr (⊎_elim
          (λ (e : prev ≡ it). absurd (gives_nothing core text (Contains now) prev what x q (subst (IsComplete core) (sym e) complete)))
          (λ (b : IsGivenBack core text (taken_in s k) it prev what x). back_from t g x prev what b) i))
          (subst (AreKnown core t) (sym cells) (known_on core text p k s w trail item number r.taking.stored at is h t g w.callers.items h.callers))
          (λ i callee after at_i known last.
          ⊎_elim
          (λ (q : (i ≡ item.instance) × (after ≡ with_end (called_at w item.instance) p number) × (item.instance < length w.called.items)).
          let same : it.instance ≡ callee = same_Some it.instance callee (sym named_at ∙ ap (slice_get (instances_in s)) (sym q.0) ∙ at_i) in
          subst (IsFirstEnd core (Contains now) (found_in t) (record { instance = callee; end = p })) (sym (ap (λ (z : Called). z.last_done) q.1))
          (subst (λ (z : Instance). IsFirstEnd core (Contains now) (found_in t) (record { instance = z; end = p }) number) same (first t g)))
          (λ (q : (i ≡ item.instance → ⊥) × (slice_get w.called.items i ≡ Some after)).
          first_now core text p k s w trail item number r.taking.stored at is h t g (record { instance = callee; end = p }) after.last_done
          (h.ends i callee after at_i q.1 last))
          (set_cases w.called.items item.instance (with_end (called_at w item.instance) p number) i after
          (subst (λ (z : List Called). slice_get z i ≡ Some after) called known)))

  -- an item before a call
  module _ (inside : ItemsAreInText) (i : ℕ) (callee : Instance) (label : Option (List ℕ)) (excluded : List Pattern)
      (named : slice_get (instances_in s) i ≡ Some callee) (calls : Calls core text it callee label excluded) (v : Waiting)
      (is_bare : Bool) (bare : IsTrue is_bare → StandsAtBareCall core it)
      (cells : v.callers.items ≡ lengthened w.callers.items (called_at w i).last item number is_bare)
      (called : v.called.items ≡ set w.called.items i (with_caller (called_at w i) (suc (length w.callers.items)))) where
    abbrev node : NodeKey
    node = record { instance = callee; end = p }

    abbrev waits_now : Called
    waits_now = with_caller (called_at w i) (suc (length w.callers.items))

    known_i : slice_get w.called.items i ≡ Some (called_at w i)
    known_i = there_known core text law inside budget p k s w item here r at i callee label excluded named calls

    unfinished : IsComplete core it → ⊥
    unfinished c = not_both core text it calls.names _ calls.before c

    new_known : IsKnown core s (record { item = item; number = number; is_bare = is_bare; next = 0 })
    new_known = record { numbered = stored_at s k number item is at; bare = bare }

    callers_now : AreKnown core s v.callers.items
    callers_now one c =
        let q = longer_from w.callers.items item number is_bare (called_at w i).last one (subst (λ (z : List Caller). Contains z one) cells c) in
        let known : IsKnown core s q.0 =
        ⊎_elim (λ (old : Contains w.callers.items q.0). h.callers q.0 old)
        (λ (new : q.0 ≡ record { item = item; number = number; is_bare = is_bare; next = 0 }). subst (IsKnown core s) (sym new) new_known) q.1 in
        record {
          numbered = ap (slice_get (s.done.items ++ s.here.items)) q.3 ∙ known.numbered ∙ ap Some (sym q.2);
          bare = λ b. subst (λ (z : stored.Item). StandsAtBareCall core (means s z)) (sym q.2) (known.bare (sym q.4 ∙ b));
        }

    alike : EndsAlike w v
    alike =
        record {
          was = λ j after e.
              ⊎_elim
              (λ (q : (j ≡ i) × (after ≡ waits_now) × (i < length w.called.items)). (
                called_at w i,
                ap (slice_get w.called.items) q.0 ∙ known_i,
                ap (λ (z : Called). z.last_end) q.1,
                ap (λ (z : Called). z.last_done) q.1,
              ))
              (λ (q : (j ≡ i → ⊥) × (slice_get w.called.items j ≡ Some after)). (after, q.1, refl, refl))
              (set_cases w.called.items i waits_now j after (subst (λ (z : List Called). slice_get z j ≡ Some after) called e));
        }

    known_before : (done : Item) → IsComplete core done → Contains now done → Contains (taken_in s k) done
    known_before done c q =
        ⊎_elim (λ (a : Contains (taken_in s k) done). a)
        (λ (a : Contains (it ∷ []) done). absurd (unfinished (subst (IsComplete core) (contains_one it done a) c)))
        (Contains-append_cases (taken_in s k) (it ∷ []) done q)

    ends_now : (done : Item) (end : ℕ) → Contains now done → Completes core done (record { instance = callee; end = end }) → end ≡ p
    ends_now done end q c =
        sym c.end ∙
        ends_here core text law inside budget p k s w item here r at i callee label excluded named calls done
        (known_before done c.complete q) c.instance

    -- the callee has no end here
    pub waits_on : ((called_at w i).last_end ≡ Some p → ⊥) → HasTrail core text p (suc k) s v trail
    waits_on apart =
        let g = goes_still p k s item r.taking.stored at in
        goes_unfinished core text p k s w trail item number r.taking.stored at is h s g unfinished (λ way x. ⊥) v trail
        (more_none core text s s trail trail (taken_in s k) h.ways refl refl refl refl refl (λ i. i)) refl (λ way x m. absurd m)
        (λ x what q.
        let b = gives_call core text (Contains now) it what x callee label excluded q calls in
        absurd (apart ((r.waiting.ends i callee (called_at w i) named known_i).1
        (record {
          item = b.done;
          among = known_before b.done b.completes.complete b.is_known;
          of = b.completes.instance;
          complete = b.completes.complete;
          ends = b.completes.end ∙ ends_now b.done b.end b.is_known b.completes;
        }))))
        callers_now alike

    -- the callee ended here
    pub past_on : (d : ℕ) → (called_at w i).last_end ≡ Some p → d ≡ (called_at w i).last_done →
        (t : Found) (u : Trail) (result : Result (Unit {0}) RunFault) →
        Adds p (IsPastCall text label excluded p it) budget s t result →
        OnOk result (Records (By (Node number d) (IsPastCall text label excluded p it)) s t
        trail u) →
        OnOk result (HasTrail core text p (suc k) t v u)
    past_on d last d_is t u result adds rec =
        let f : IsFirstEnd core (Contains (taken_in s k)) (found_in s) node d =
        subst (IsFirstEnd core (Contains (taken_in s k)) (found_in s) node) (sym d_is) (h.ends i callee (called_at w i) named known_i last) in
        step_on (IsPastCall text label excluded p it)
        (Node number d) t v u result adds rec unfinished
        (λ g x m.
        ways.comes (Node number d) it (tree node)
        (ways.node number d it node (there t g) (first_now core text p k s w trail item number r.taking.stored at is h t g node d f))
        (given.return it f.end.item label excluded node x is_known
        (known_still core text p k s w trail item number r.taking.stored at is h f.end.item f.end.is_known) calls f.end.completes m.0 m.1))
        (λ g x what q.
        let b = gives_call core text (Contains now) it what x callee label excluded q calls in
        let end : b.end ≡ p = ends_now b.done b.end b.is_known b.completes in (
          (
            subst (λ (n : ℕ). MatchesNone text excluded it.position n) end b.free,
            b.is ∙ ap (λ (n : ℕ). past it (span_of label it.position n) n) end,
          ),
          subst (Says core (Contains now) (found_in t) x.position (Node number d) it)
              (sym (b.takes ∙ ap (λ (n : ℕ). tree (record { instance = callee; end = n })) end))
              (ways.node number d it node (there t g) (first_now core text p k s w trail item number r.taking.stored at is h t g node d f)),
        ))
        callers_now alike

  -- an item of which nothing comes
  pub idle_on : Comes core text it NoItem NoItem NoCall ⊥ → HasTrail core text p (suc k) s w trail
  idle_on c =
      let g = goes_still p k s item r.taking.stored at in
      goes_unfinished core text p k s w trail item number r.taking.stored at is h s g c.ending.0
      (λ way x. ⊥) w trail
      (more_none core text s s trail trail (taken_in s k) h.ways refl refl refl refl refl (λ i. i)) refl (λ way x m. absurd m)
      (λ x what q. absurd (gives_passing core text (Contains now) NoItem it what x c q).1)
      (known_on core text p k s w trail item number r.taking.stored at is h s g w.callers.items h.callers) (ends_alike_itself w)
