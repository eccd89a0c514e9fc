-- Tables grow while the items stay, and items are added that aren't taken.
use Rattle.std.proofs.Common.{◌≡◌, ◌⊎◌, ⊎_elim, inl, inr, ℕ, zero, suc, ◌+◌, ◌<◌, ◌≤◌, List, [], ◌∷◌, ◌++◌, Some, None, length, map, take, Contains, refl, sym, ap, ◌∙◌, subst, arith, slice_get, length-append}
use Rattle.std.proofs.lemmas.Option.{same_Some, slice_get_within}
use Rattle.std.proofs.lemmas.List.Elements.{Contains-append_left, Contains-append_right, Contains-append_cases}
use Rattle.ig_text.specs.Input.{Input}
use Rattle.ig_text.proofs.Lists.{among_all, sides, none_in_nil, same_map}
use Rattle.ig_item.specs.Items.{Item, Follows, Reachable, MoreThan}
use Rattle.ig_item.specs.WellKinded.{NoneTwice}
use Rattle.ig_item.specs.declared.core_grammar.Nonterminal.{Nonterminal}
use Rattle.ig_item.specs.declared.items.Instance.{Instance}
use Rattle.ig_item.specs.declared.items.Item as stored
use Rattle.ig_plain.specs.declared.found.Found.{Found}
use Rattle.ig_run_moves.specs.declared.waiting.Waiting.{Waiting}
use Rattle.ig_run_moves.specs.declared.waiting.Called.{Called}
use Rattle.ig_run_moves.specs.declared.waiting.Caller.{Caller}
use Rattle.ig_run_tables.specs.Extends.{Extends}
use Rattle.ig_plain.specs.Found.{means, instances_in, found_in, later_in, taken_in, count, Named, AreTables, IsStored, Grows}
use Rattle.ig_run_laws.specs.Rules.{IsCaller}
use Rattle.ig_run_moves.specs.Waiting.{not_called}
use Rattle.ig_plain.specs.Run as run
use Rattle.ig_plain.specs.Run.{HasCallers, HasEnd, IsWaiting, IsTaking, IsRun}
use Rattle.ig_plain.proofs.Growth.{means_kept, found_named, found_from, later_same, all_kept, longer}
use Rattle.ig_plain.proofs.Distinct.{too_many}
use Rattle.ig_plain.proofs.Running.{stored_grown, taken_grown}
use Rattle.ig_plain.proofs.Waiters.{Keeps}

-- the items stay, in tables that grow
pub record Moved (s t : Found) : Type 0 where
  pub envs : Extends s.envs.keys t.envs.keys
  pub keys : Extends s.keys t.keys
  pub done : t.done.items ≡ s.done.items
  pub here : t.here.items ≡ s.here.items
  pub later : t.later.items ≡ s.later.items
  pub tables : AreTables t

module _ (s t : Found) (m : Moved s t) where
  pub moved_named : (x : stored.Item) → Named s x → Named t x
  moved_named x h =
      record {
        instance = let l = longer s.keys t.keys m.keys in omega (arith, l, h.instance);
        env = let l = longer s.envs.keys t.envs.keys m.envs in omega (arith, l, h.env);
      }

  pub moved_means : (x : stored.Item) → Named s x → means t x ≡ means s x
  moved_means x h = means_kept s.envs.keys t.envs.keys s.keys t.keys x m.envs m.keys s.named.values h

  moved_map : (xs ys : List stored.Item) → ys ≡ xs → ((x : stored.Item) → Contains xs x → Named s x) → map (means t) ys ≡ map (means s) xs
  moved_map xs ys e named = ap (map (means t)) e ∙ same_map (means t) (means s) xs (λ x c. moved_means x (named x c))

  pub moved_found : found_in t ≡ found_in s
  moved_found =
      moved_map (s.done.items ++ s.here.items) (t.done.items ++ t.here.items)
      (ap (λ (z : List stored.Item). z ++ t.here.items) m.done ∙ ap (λ (z : List stored.Item). s.done.items ++ z) m.here) (found_named s)

  pub moved_later : later_in t ≡ later_in s
  moved_later = moved_map s.later.items t.later.items m.later s.named.later

  pub moved_taken : (k : ℕ) → taken_in t k ≡ taken_in s k
  moved_taken k =
      moved_map (s.done.items ++ take k s.here.items) (t.done.items ++ take k t.here.items)
      (ap (λ (z : List stored.Item). z ++ take k t.here.items) m.done ∙ ap (λ (z : List stored.Item). s.done.items ++ take k z) m.here)
      (λ x c. ⊎_elim (s.named.done x) (λ (h : Contains (take k s.here.items) x). s.named.here x (among_all s.here.items k x h)) (Contains-append_cases s.done.items (take k s.here.items) x c))

  pub moved_all : (x : Item) → Contains (found_in t ++ later_in t) x → Contains (found_in s ++ later_in s) x
  moved_all x c =
      subst (λ (z : List Item). Contains z x) (ap (λ (z : List Item). z ++ later_in t) moved_found ∙ ap (λ (z : List Item). found_in s ++ z) moved_later) c

  pub moved_back : (x : Item) → Contains (found_in s ++ later_in s) x → Contains (found_in t ++ later_in t) x
  moved_back x c =
      subst (λ (z : List Item). Contains z x)
      (sym (ap (λ (z : List Item). z ++ later_in t) moved_found ∙ ap (λ (z : List Item). found_in s ++ z) moved_later)) c

  pub moved_count : count t ≡ count s
  moved_count =
      let a = ap length m.done in let b = ap length m.here in let c = ap length m.later in omega (arith, a, b, c)

  pub moved_stored : (p : ℕ) → IsStored p s → IsStored p t
  moved_stored p r =
      record {
        tables = m.tables;
        before = λ x c. r.before x (subst (λ (z : List stored.Item). Contains z x) m.done c);
        at = λ x c. r.at x (subst (λ (z : List stored.Item). Contains z x) m.here c);
        behind = λ x c. r.behind x (subst (λ (z : List stored.Item). Contains z x) m.later c);
        done_once = subst NoneTwice (sym m.done) r.done_once;
        here_once = subst NoneTwice (sym m.here) r.here_once;
        later_once = subst NoneTwice (sym m.later) r.later_once;
      }

  pub moved_taking : (core : List Nonterminal) (text : Input) (budget p k : ℕ) → IsTaking core text budget p k s → IsTaking core text budget p k t
  moved_taking core text budget p k r =
      record {
        stored = moved_stored p r.stored;
        reachable = λ x c. r.reachable x (moved_all x c);
        closed = λ x f. moved_back x (r.closed x (subst (λ (z : List Item). Follows core text (Contains z) x) (moved_taken k) f));
        came = λ x c.
            let h = r.came x (subst (λ (z : List Item). Contains z x) moved_later c) in
            (h.0, subst (λ (z : List Item). Contains z h.0) (sym (moved_taken k)) h.1, h.2);
        few = let e = ap length m.here in omega (arith, e, r.few);
        within = let e = moved_count in omega (arith, e, r.within);
      }

-- items are added at the position that are reachable
pub taking_grown : (core : List Nonterminal) (text : Input) (budget p k : ℕ) (may : Item → Type 0) (s t : Found) → IsTaking core text budget p k s →
    Grows p may s t → ((x : Item) → may x → Reachable core text x) → count t ≤ budget → IsTaking core text budget p k t
taking_grown core text budget p k may s t r g sound within =
    let same = taken_grown p may s t k g r.few in
    record {
      stored = stored_grown p may s t r.stored g;
      reachable = λ x c.
          ⊎_elim
          (λ (h : Contains (found_in t) x).
          ⊎_elim (λ (i : Contains (found_in s) x). r.reachable x (Contains-append_left (found_in s) (later_in s) x i)) (λ (i : may x). sound x i)
          (found_from p may s t g x h))
          (λ (h : Contains (later_in t) x).
          r.reachable x (Contains-append_right (found_in s) (later_in s) x (subst (λ (z : List Item). Contains z x) (later_same p may s t g) h)))
          (Contains-append_cases (found_in t) (later_in t) x c);
      closed = λ x f. all_kept p may s t g x (r.closed x (subst (λ (z : List Item). Follows core text (Contains z) x) same f));
      came = λ x c.
          let h = r.came x (subst (λ (z : List Item). Contains z x) (later_same p may s t g) c) in
          (h.0, subst (λ (z : List Item). Contains z h.0) (sym same) h.1, h.2);
      few = let e = ap length g.here.is in let l = length-append s.here.items g.here.more in omega (arith, e, l, r.few);
      within = within;
    }

pub exceeds_grown : (core : List Nonterminal) (text : Input) (budget p k : ℕ) (may : Item → Type 0) (s t : Found) → IsTaking core text budget p k s →
    Grows p may s t → ((x : Item) → may x → Reachable core text x) → budget < count t → MoreThan core text budget
exceeds_grown core text budget p k may s t r g sound more =
    too_many p t (stored_grown p may s t r.stored g) core text budget
    (λ x c.
    ⊎_elim
    (λ (h : Contains (found_in t) x).
    ⊎_elim (λ (i : Contains (found_in s) x). r.reachable x (Contains-append_left (found_in s) (later_in s) x i)) (λ (i : may x). sound x i)
    (found_from p may s t g x h))
    (λ (h : Contains (later_in t) x).
    r.reachable x (Contains-append_right (found_in s) (later_in s) x (subst (λ (z : List Item). Contains z x) (later_same p may s t g) h)))
    (Contains-append_cases (found_in t) (later_in t) x c)) more

module _ (core : List Nonterminal) (text : Input) (p : ℕ) where
  callers_kept : (s t : Found) (taken : List Item) (cells : List Caller) (head last : ℕ) (callee : Instance) →
      ((x : stored.Item) → Named s x → Named t x) → ((x : stored.Item) → Named s x → means t x ≡ means s x) →
      HasCallers core text s taken cells head last callee → HasCallers core text t taken cells head last callee
  callers_kept s t taken cells head last callee named same h =
      record {
        chain = h.chain;
        chained = h.chained;
        ended = h.ended;
        named = λ y c. named y (h.named y c);
        callers = λ y c.
            let q = h.callers y c in let e = sym (same y (h.named y c)) in
            (subst (Contains taken) e q.0, subst (λ (z : Item). IsCaller core text z callee) e q.1);
        all = λ x c d. let q = h.all x c d in (q.0, q.1, same q.0 (h.named q.0 q.1) ∙ q.2);
      }

  -- what waits stays as tables grow
  pub waits_kept : (s t : Found) (taken : List Item) (w : Waiting) → Keeps s t → IsWaiting core text p s taken w → IsWaiting core text p t taken w
  waits_kept s t taken w keeps r =
      record {
        lengths = r.lengths ∙ ap length (sym keeps.instances);
        callers = λ i callee called at known.
            callers_kept s t taken w.callers.items called.first called.last callee keeps.named keeps.means_same
            (r.callers i callee called (subst (λ (z : List Instance). slice_get z i ≡ Some callee) keeps.instances at) known);
        ends = λ i callee called at known. r.ends i callee called (subst (λ (z : List Instance). slice_get z i ≡ Some callee) keeps.instances at) known;
        known = λ x callee c d. subst (λ (z : List Instance). Contains z callee) (sym keeps.instances) (r.known x callee c d);
        before = r.before;
      }

  nothing_at : {X : Type 0} (x y : X) (m : ℕ) → slice_get (x ∷ []) m ≡ Some y → (m ≡ 0) × (x ≡ y)
  nothing_at x y zero e = (refl, same_Some x y e)
  nothing_at x y (suc m) e = cc

  -- a new instance has no callers and no ends
  pub waits_new : (s t : Found) (taken : List Item) (w v : Waiting) (fresh : Instance) →
      ((x : stored.Item) → Named s x → Named t x) → ((x : stored.Item) → Named s x → means t x ≡ means s x) →
      instances_in t ≡ instances_in s ++ fresh ∷ [] → (Contains (instances_in s) fresh → ⊥) →
      ((x : Item) → Contains taken x → Contains (instances_in s) x.instance) →
      v.called.items ≡ w.called.items ++ not_called ∷ [] → v.callers.items ≡ w.callers.items →
      IsWaiting core text p s taken w → IsWaiting core text p t taken v
  waits_new s t taken w v fresh named same all apart inside called cells r =
      let lens : length w.called.items ≡ length (instances_in s) = r.lengths in
      let old : (i : ℕ) (callee : Instance) (c : Called) → slice_get (instances_in t) i ≡ Some callee → slice_get v.called.items i ≡ Some c →
      ((slice_get (instances_in s) i ≡ Some callee) × (slice_get w.called.items i ≡ Some c)) ⊎ ((callee ≡ fresh) × (c ≡ not_called)) =
      λ i callee c at known.
      ⊎_elim
      (λ (h : slice_get (instances_in s) i ≡ Some callee).
      ⊎_elim (λ (q : slice_get w.called.items i ≡ Some c). inl (h, q))
      (λ (q : (m : ℕ) × (i ≡ length w.called.items + m) × (slice_get (not_called ∷ []) m ≡ Some c)).
      let l = slice_get_within (instances_in s) i callee h in absurd (omega (arith, l, q.1, lens)))
      (sides w.called.items (not_called ∷ []) i c (subst (λ (z : List Called). slice_get z i ≡ Some c) called known)))
      (λ (h : (m : ℕ) × (i ≡ length (instances_in s) + m) × (slice_get (fresh ∷ []) m ≡ Some callee)).
      ⊎_elim
      (λ (q : slice_get w.called.items i ≡ Some c).
      let l = slice_get_within w.called.items i c q in absurd (omega (arith, l, h.1, lens)))
      (λ (q : (m : ℕ) × (i ≡ length w.called.items + m) × (slice_get (not_called ∷ []) m ≡ Some c)).
      inr (sym (nothing_at fresh callee h.0 h.2).1, sym (nothing_at not_called c q.0 q.2).1))
      (sides w.called.items (not_called ∷ []) i c (subst (λ (z : List Called). slice_get z i ≡ Some c) called known)))
      (sides (instances_in s) (fresh ∷ []) i callee (subst (λ (z : List Instance). slice_get z i ≡ Some callee) all at)) in
      record {
        lengths =
            let a = ap length called in let b = ap length all in let c = length-append w.called.items (not_called ∷ []) in
            let d = length-append (instances_in s) (fresh ∷ []) in omega (arith, a, b, c, d, lens);
        callers = λ i callee c at known.
            ⊎_elim
            (λ h.
            subst (λ (z : List Caller). HasCallers core text t taken z c.first c.last callee) (sym cells)
            (callers_kept s t taken w.callers.items c.first c.last callee named same (r.callers i callee c h.0 h.1)))
            (λ h.
            subst (λ (z : Called). HasCallers core text t taken v.callers.items z.first z.last callee) (sym h.1)
            (record {
              chain = [];
              chained = run.none;
              ended = run.nowhere;
              named = λ y k. absurd (none_in_nil y k);
              callers = λ y k. absurd (none_in_nil y k);
              all = λ x k d. absurd (apart (subst (Contains (instances_in s)) h.0 (r.known x callee k d)));
            })) (old i callee c at known);
        ends = λ i callee c at known.
            ⊎_elim (λ h. r.ends i callee c h.0 h.1)
            (λ h. (
              λ e. let z : None ≡ Some p = sym (ap (λ (q : Called). q.last_end) h.1) ∙ e in cc,
              λ e. absurd (apart (subst (Contains (instances_in s)) (e.of ∙ h.0) (inside e.item e.among))),
            )) (old i callee c at known);
        known = λ x callee c d.
            subst (λ (z : List Instance). Contains z callee) (sym all) (Contains-append_left (instances_in s) (fresh ∷ []) callee (r.known x callee c d));
        before = λ i c e known is.
            ⊎_elim (λ (q : slice_get w.called.items i ≡ Some c). r.before i c e q is)
            (λ (q : (m : ℕ) × (i ≡ length w.called.items + m) × (slice_get (not_called ∷ []) m ≡ Some c)).
            let z : None ≡ Some e = ap (λ (k : Called). k.last_end) (nothing_at not_called c q.0 q.2).1 ∙ is in cc)
            (sides w.called.items (not_called ∷ []) i c (subst (λ (z : List Called). slice_get z i ≡ Some c) called known));
      }
