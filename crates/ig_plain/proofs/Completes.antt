-- A complete item is taken.
use Rattle.std.proofs.Common.{◌≡◌, inl, inr, ℕ, zero, suc, ◌<◌, List, [], ◌∷◌, ◌++◌, Some, Option, length, map, set, Contains, refl, sym, ap, ◌∙◌, subst, arith, slice_get}
use Rattle.std.specs.Prelude.{Result, Ok, Err, slice_index_or, option_map}
use Rattle.std.proofs.lemmas.Option.{slice_get_within, slice_get-get_or, slice_get-map}
use Rattle.ig_text.specs.Input.{Input}
use Rattle.ig_text.specs.declared.pattern.Pattern.{Pattern}
use Rattle.ig_text.proofs.Lists.{contains_from_at, same_map}
use Rattle.ig_item.specs.Step.{Call}
use Rattle.ig_item.specs.Core.{IsAlternative}
use Rattle.ig_item.specs.Items as items
use Rattle.ig_item.specs.Items.{Item, IsComplete, Calls, MatchesNone, past, span_of, first, Follows, Reachable, StandsBefore}
use Rattle.ig_item.specs.Laws.{ReachableIsClosed}
use Rattle.ig_item.specs.Tables.{instance_by}
use Rattle.ig_item.specs.WellKinded.{NoneTwice}
use Rattle.ig_item.specs.declared.core_grammar.Nonterminal.{Nonterminal}
use Rattle.ig_item.specs.declared.core_grammar.CoreAlt.{CoreAlt}
use Rattle.ig_item.specs.declared.items.Instance.{Instance}
use Rattle.ig_item.specs.declared.items.Item as stored
use Rattle.ig_item.specs.declared.run_fault.RunFault.{RunFault}
use Rattle.ig_plain.specs.declared.found.Found.{Found}
use Rattle.ig_run_moves.specs.declared.waiting.Waiting.{Waiting}
use Rattle.ig_run_moves.specs.declared.waiting.Called.{Called}
use Rattle.ig_run_moves.specs.Tables.{no_key}
use Rattle.ig_run_laws.specs.Rules.{After, IsCaller}
use Rattle.ig_plain.specs.Found.{means, instances_in, found_in, later_in, taken_in, Named, Grows, Adds}
use Rattle.ig_run_laws.specs.Rules as rules
use Rattle.ig_plain.specs.Rules.{StandsAtCall, IsReturn}
use Rattle.ig_run_moves.specs.Waiting.{called_at, not_called, with_end}
use Rattle.ig_plain.specs.Run.{HasCallers, IsWaiting, IsRun, IsTaken, Taking, IsChainOf, IsReturnToOne}
use Rattle.ig_plain.proofs.Growth.{grows_not, means_grown, named_grown, all_kept, instance_kept}
use Rattle.ig_plain.proofs.Extending.{extends_itself}
use Rattle.ig_plain.proofs.Following.{one_step, not_both}
use Rattle.ig_plain.proofs.Distinct.{one_instance, once_mapped}
use Rattle.ig_plain.proofs.Returns.{one_chain}
use Rattle.ig_plain.proofs.Running.{takes_found, taken_now, refuses}
use Rattle.ig_plain.proofs.Waiters.{Keeps, Ended, ended_already, waits_complete}

pub instances_once : (s : Found) → NoneTwice s.envs.keys → NoneTwice s.keys → NoneTwice (instances_in s)
instances_once s e k =
    once_mapped (instance_by s.envs.keys) s.keys k (λ x y c d h. one_instance s.envs.keys s.keys e k s.named.values x y c d h)

-- the instance of a stored item
pub instance_at : (s : Found) (x : stored.Item) → Named s x → slice_get (instances_in s) x.instance ≡ Some (means s x).instance
instance_at s x n =
    slice_get-map (instance_by s.envs.keys) s.keys x.instance ∙
    ap (option_map (instance_by s.envs.keys)) (slice_get-get_or s.keys x.instance no_key n.instance)

-- more items at the position keep all names
pub keeps_grown : (p : ℕ) (may : Item → Type 0) (a b : Found) → Grows p may a b → Keeps a b
keeps_grown p may a b g =
    record {
      named = λ x h. named_grown p may a b x g h;
      means_same = λ x h. means_grown p may a b x g h;
      instances = ap (map (instance_by b.envs.keys)) g.keys ∙
          same_map (instance_by b.envs.keys) (instance_by a.envs.keys) a.keys (λ key c. instance_kept a.envs.keys b.envs.keys key g.envs (a.named.values key c));
    }

module _ (core : List Nonterminal) (text : Input) (law : ReachableIsClosed) (budget p k : ℕ) (s : Found) (w : Waiting) (item : stored.Item)
    (here : item.position ≡ p) (r : IsRun core text budget p k s w) (at : slice_get s.here.items k ≡ Some item) where
  abbrev it : Item
  it = means s item

  pub item_named : Named s item
  item_named = s.named.here item (contains_from_at s.here.items k item at)

  pub called_there : item.instance < length w.called.items
  called_there =
      let l = slice_get_within (instances_in s) item.instance it.instance (instance_at s item item_named) in
      let e = r.waiting.lengths in omega (arith, l, e)

  once : NoneTwice (instances_in s)
  once = instances_once s r.taking.stored.tables.environments r.taking.stored.tables.instances

  pub known_called : slice_get w.called.items item.instance ≡ Some (called_at w item.instance)
  known_called = slice_get-get_or w.called.items item.instance not_called called_there

  pub firsts_kept : (may : Item → Type 0) (t : Found) → Grows p may s t → (callee : Instance) → Contains (instances_in t) callee → (a : ℕ)
      (nonterminal : Nonterminal) (alternative : CoreAlt) → IsAlternative core callee.nonterminal a nonterminal alternative →
      Contains (found_in t ++ later_in t) (first callee a)
  firsts_kept may t g callee c a nonterminal alternative has =
      all_kept p may s t g (first callee a)
      (r.firsts callee (subst (λ (z : List Instance). Contains z callee) (keeps_grown p may s t g).instances c) a nonterminal alternative has)

  module _ (complete : IsComplete core it) where
    -- what follows comes from a caller
    by_return : (x : Item) → After core text (Contains (taken_in s k)) it x →
        (caller : Item) × (label : Option (List ℕ)) × (excluded : List Pattern) × Contains (taken_in s k) caller ×
        Calls core text caller it.instance label excluded × MatchesNone text excluded caller.position it.position ×
        (x ≡ past caller (span_of label caller.position it.position) it.position)
    by_return x (rules.test names e before holds f) = absurd (not_both core text it names _ before complete)
    by_return x (rules.bind names name e v before has f) = absurd (not_both core text it names _ before complete)
    by_return x (rules.terminal names what label excluded j before matches free e) = absurd (not_both core text it names _ before complete)
    by_return x (rules.call callee label excluded nonterminal a alternative calls at e) = absurd (not_both core text it calls.names _ calls.before complete)
    by_return x (rules.return done label excluded c calls d free e) = absurd (not_both core text it calls.names _ calls.before complete)
    by_return x (rules.returned caller label excluded c calls d free e) = (caller, label, excluded, c, calls, free, e)

    -- an item that was complete here before had all callers return
    pub nothing_new : (called_at w item.instance).last_end ≡ Some p → IsRun core text budget p (suc k) s w
    nothing_new is =
        let end = (r.waiting.ends item.instance it.instance (called_at w item.instance) (instance_at s item item_named) known_called).0 is in
        let never : Item → Type 0 = λ x. ⊥ in
        let g = grows_not p never s s (extends_itself s.envs.keys) (λ h. h) refl refl refl refl in
        record {
          taking = takes_found core text law budget p k s item r.taking at never s g (λ x m. absurd m) (λ x m. absurd m) r.taking.within
              (λ x a.
              let h = by_return x a in
              inr (r.taking.closed x
              (items.return h.0 end.item h.1 h.2 x h.3 end.among
              (subst (λ (z : Instance). Calls core text h.0 z h.1 h.2) (sym end.of) h.4) end.complete
              (subst (λ (n : ℕ). MatchesNone text h.2 h.0.position n) (here ∙ sym end.ends) h.5)
              (h.6 ∙ ap (λ (n : ℕ). past h.0 (span_of h.1 h.0.position n) n) (here ∙ sym end.ends)))));
          firsts = r.firsts;
          waiting = subst (λ (z : List Item). IsWaiting core text p s z w) (sym (taken_now core text law budget p k s item r.taking at never s g (λ x m. absurd m)))
              (waits_complete core text p s s (taken_in s k) it w w item.instance (keeps_grown p never s s g) once
              (ended_already w item.instance p is) (instance_at s item item_named) complete here r.waiting);
        }

    -- the callers of the instance
    abbrev head : ℕ
    head = (called_at w item.instance).first

    pub waits : HasCallers core text s (taken_in s k) w.callers.items head (called_at w item.instance).last it.instance
    waits = r.waiting.callers item.instance it.instance (called_at w item.instance) (instance_at s item item_named) known_called

    pub chain_of : IsChainOf core w.callers.items head s
    chain_of =
        record {
          chain = waits.chain;
          chained = waits.chained;
          named = waits.named;
          calls = λ y c.
              let q = (waits.callers y c).1 in
              record { names = q.calls.names; callee = it.instance.nonterminal; arguments = q.calls.arguments; label = q.label; excluded = q.excluded; before = q.calls.before };
        }

    abbrev Returned : Item → Type 0
    Returned = IsReturnToOne core text w.callers.items head p s

    sound : (x : Item) → Returned x → After core text (Contains (taken_in s k)) it x
    sound x m =
        let among = subst (λ (z : List stored.Item). Contains z m.caller) (one_chain w.callers.items head m.chain m.chained waits.chain waits.chained) m.among in
        let q = waits.callers m.caller among in
        let c = m.returns.call in
        let steps = one_step core text (means s m.caller) c.names q.1.calls.names (Call c.callee c.arguments c.label c.excluded)
        (Call it.instance.nonterminal q.1.calls.arguments q.1.label q.1.excluded) c.before q.1.calls.before in
        let label : c.label ≡ q.1.label = cc steps in
        let excluded : c.excluded ≡ q.1.excluded = cc steps in
        rules.returned (means s m.caller) q.1.label q.1.excluded q.0 q.1.calls complete
        (subst (λ (n : ℕ). MatchesNone text q.1.excluded m.caller.position n) (sym here)
        (subst (λ (z : List Pattern). MatchesNone text z m.caller.position p) excluded m.returns.free))
        (m.returns.is ∙ ap (λ (z : Option (List ℕ)). past (means s m.caller) (span_of z m.caller.position p) p) label ∙
        ap (λ (n : ℕ). past (means s m.caller) (span_of q.1.label m.caller.position n) n) (sym here))

    complete_one : (x : Item) → After core text (Contains (taken_in s k)) it x → Returned x
    complete_one x a =
        let h = by_return x a in
        let q = waits.all h.0 h.3 (record { label = h.1; excluded = h.2; calls = h.4 }) in
        let call : StandsAtCall core h.0 =
        record { names = h.4.names; callee = it.instance.nonterminal; arguments = h.4.arguments; label = h.1; excluded = h.2; before = h.4.before } in
        let back : IsReturn core text h.0 p x =
        record {
          call = call;
          free = subst (λ (n : ℕ). MatchesNone text h.2 h.0.position n) here h.5;
          is = h.6 ∙ ap (λ (n : ℕ). past h.0 (span_of h.1 h.0.position n) n) here;
        } in
        record {
          chain = waits.chain;
          chained = waits.chained;
          caller = q.0;
          among = q.1;
          returns = subst (λ (z : Item). IsReturn core text z p x) (sym q.2) back;
        }

    pub completes : (t : Found) (v : Waiting) (result : Result (Unit {0}) RunFault) → Ended w v item.instance p →
        Adds p Returned budget s t result → IsTaken core text budget p k t v result
    completes t v (Ok u) ended d =
        record {
          taking = takes_found core text law budget p k s item r.taking at Returned t d.grows sound d.has (d.within r.taking.within) (λ x a. inl (complete_one x a));
          firsts = firsts_kept Returned t d.grows;
          waiting = subst (λ (z : List Item). IsWaiting core text p t z v) (sym (taken_now core text law budget p k s item r.taking at Returned t d.grows sound))
              (waits_complete core text p s t (taken_in s k) it w v item.instance (keeps_grown p Returned s t d.grows) once ended
              (instance_at s item item_named) complete here r.waiting);
        }
    completes t v (Err f) ended d = refuses core text law budget p k s item r.taking at Returned t f d sound

-- the run, at the number of the item
pub run_at : (core : List Nonterminal) (text : Input) (budget : ℕ) (item : stored.Item) (s : Found) (w : Waiting) → Taking core text budget item s w →
    (k : ℕ) → slice_get s.here.items k ≡ Some item → IsRun core text budget item.position k s w
run_at core text budget item s w t k e =
    subst (λ (n : ℕ). IsRun core text budget item.position n s w) (t.run.taking.stored.here_once t.number k item t.at e) t.run

pub set_at : {X : Type 0} (xs : List X) (m : ℕ) (y d : X) → m < length xs → slice_index_or (set xs m y) m d ≡ y
set_at [] m y d lt = absurd (omega arith)
set_at (x ∷ xs) zero y d lt = refl
set_at (x ∷ xs) (suc m) y d lt = set_at xs m y d (omega arith)

pub head_now : (w v : Waiting) (m p done : ℕ) → m < length w.called.items →
    v.called.items ≡ set w.called.items m (with_end (called_at w m) p done) → (called_at v m).first ≡ (called_at w m).first
head_now w v m p done lt is =
    ap (λ (z : List Called). (slice_index_or z m not_called).first) is ∙
    ap (λ (z : Called). z.first) (set_at w.called.items m (with_end (called_at w m) p done) not_called lt)
