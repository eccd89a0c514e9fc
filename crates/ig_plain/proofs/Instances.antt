-- An instance is called: it is found in the table, or added with its first items.
use Rattle.std.proofs.Common.{◌≡◌, ⊎_elim, ℕ, ◌≤◌, List, [], ◌∷◌, ◌++◌, Some, length, map, take, Contains, refl, sym, ap, ◌∙◌, subst, arith, slice_get}
use Rattle.std.specs.Prelude.{Result, Ok, Err, MatchResult}
use Rattle.std.specs.Result.{IsErrAnd}
use Rattle.std.proofs.lemmas.Result.{err_from_is_err_and}
use Rattle.std.proofs.lemmas.List.{map-append}
use Rattle.std.proofs.lemmas.List.Elements.{Contains-append_cases}
use Rattle.ig_text.specs.Input.{Input}
use Rattle.ig_text.proofs.Lists.{contains_from_at, right_at, contains_one, unmapped_in, same_map, among_all}
use Rattle.ig_item.specs.Core.{IsAlternative}
use Rattle.ig_item.specs.Items.{Item, Reachable, first}
use Rattle.ig_item.specs.Tables.{instance_by, HaveValues}
use Rattle.ig_item.specs.WellKinded.{NoneTwice}
use Rattle.ig_item.specs.declared.core_grammar.Nonterminal.{Nonterminal}
use Rattle.ig_item.specs.declared.items.Instance.{Instance}
use Rattle.ig_item.specs.declared.items.InstanceKey.{InstanceKey}
use Rattle.ig_item.specs.declared.run_fault.RunFault.{RunFault}
use Rattle.ig_item.specs.declared.run_fault.RunFault.TheVariants.{Budget, Memory}
use Rattle.ig_plain.specs.declared.found.Found.{Found}
use Rattle.ig_run_moves.specs.declared.waiting.Waiting.{Waiting}
use Rattle.ig_run_tables.specs.Extends.{Extends, IsNew}
use Rattle.ig_plain.specs.Found.{means, instances_in, taken_in, Named, Adds}
use Rattle.ig_run_laws.specs.Rules.{IsFirstOf}
use Rattle.ig_run_moves.specs.Waiting.{not_called}
use Rattle.ig_plain.specs.Run.{IsWaiting, IsRun, IsEntered, Refuses}
use Rattle.ig_plain.proofs.Extending.{extends_same}
use Rattle.ig_plain.proofs.Growth.{extends_then, extends_in, all_kept, instance_kept}
use Rattle.ig_plain.proofs.Distinct.{one_instance}
use Rattle.ig_plain.proofs.Running.{taken_grown}
use Rattle.ig_plain.proofs.Waiters.{Keeps}
use Rattle.ig_plain.proofs.Completes.{instance_at, keeps_grown}
use Rattle.ig_plain.proofs.Moving.{Moved, moved_named, moved_means, moved_taken, moved_back, moved_taking, taking_grown, exceeds_grown, waits_kept, waits_new}

-- the exit of a `?`
pub at_exit : {A : Type 0} (r : Result A RunFault) (P : A → Type 0) (Q : RunFault → Type 0) (e : RunFault) →
    IsErrAnd r (λ y. y ≡ e) → Q e → MatchResult r P Q
at_exit r P Q e h q =
    let p = err_from_is_err_and r h in
    subst (λ z. MatchResult z P Q) (sym p.1) (subst Q (sym p.2) q)

-- tables that moved keep what waits
pub moved_keeps : (s t : Found) (m : Moved s t) → t.keys ≡ s.keys → Keeps s t
moved_keeps s t m same =
    record {
      named = moved_named s t m;
      means_same = moved_means s t m;
      instances = ap (map (instance_by t.envs.keys)) same ∙
          same_map (instance_by t.envs.keys) (instance_by s.envs.keys) s.keys (λ key c. instance_kept s.envs.keys t.envs.keys key m.envs (s.named.values key c));
    }

module _ (core : List Nonterminal) (text : Input) (budget p k : ℕ) (s t : Found) (w : Waiting) (r : IsRun core text budget p k s w) where
  -- a run whose tables moved, without a new instance
  pub run_moved : Moved s t → t.keys ≡ s.keys → IsRun core text budget p k t w
  run_moved m same =
      let keeps = moved_keeps s t m same in
      record {
        taking = moved_taking s t m core text budget p k r.taking;
        firsts = λ callee c a nonterminal alternative has.
            moved_back s t m (first callee a)
            (r.firsts callee (subst (λ (z : List Instance). Contains z callee) keeps.instances c) a nonterminal alternative has);
        waiting = subst (λ (z : List Item). IsWaiting core text p t z w) (sym (moved_taken s t m k))
            (waits_kept core text p s t (taken_in s k) w keeps r.waiting);
      }

  pub inside : (x : Item) → Contains (taken_in s k) x → Contains (instances_in s) x.instance
  inside x c =
      let u = unmapped_in (means s) (s.done.items ++ take k s.here.items) x c in
      let n : Named s u.0 =
      ⊎_elim (s.named.done u.0) (λ (h : Contains (take k s.here.items) u.0). s.named.here u.0 (among_all s.here.items k u.0 h))
      (Contains-append_cases s.done.items (take k s.here.items) u.0 u.1) in
      contains_from_at (instances_in s) u.0.instance x.instance (instance_at s u.0 n ∙ ap (λ (z : Item). Some z.instance) u.2)

module _ (core : List Nonterminal) (text : Input) (budget k : ℕ) (key : InstanceKey) (s : Found) (w : Waiting)
    (r : IsRun core text budget key.start k s w) where
  -- the tables are the same
  pub moved_same : (t : Found) → t.envs.keys ≡ s.envs.keys → t.done.items ≡ s.done.items → t.here.items ≡ s.here.items →
      t.later.items ≡ s.later.items → t.keys ≡ s.keys → Moved s t
  moved_same t envs done here later keys =
      record {
        envs = extends_same s.envs.keys t.envs.keys envs;
        keys = extends_same s.keys t.keys keys;
        done = done;
        here = here;
        later = later;
        tables = record {
          environments = subst NoneTwice (sym envs) r.taking.stored.tables.environments;
          instances = subst NoneTwice (sym keys) r.taking.stored.tables.instances;
        };
      }

  -- the instance is there
  pub entered_old : (t : Found) (i : ℕ) → t.envs.keys ≡ s.envs.keys → t.done.items ≡ s.done.items → t.here.items ≡ s.here.items →
      t.later.items ≡ s.later.items → t.keys ≡ s.keys → slice_get t.keys i ≡ Some key → IsEntered core text budget k key s t w i
  entered_old t i envs done here later keys there =
      let m : Moved s t = moved_same t envs done here later keys in
      record {
        run = run_moved core text budget key.start k s t w r m keys;
        there = there;
        named = moved_named s t m;
        same = moved_means s t m;
        envs = m.envs;
        done = done;
        here = extends_same s.here.items t.here.items here;
        taken = moved_taken s t m k;
      }

  -- the instance is new
  module _ (s1 : Found) (i : ℕ) (envs : s1.envs.keys ≡ s.envs.keys) (done : s1.done.items ≡ s.done.items) (here : s1.here.items ≡ s.here.items)
      (later : s1.later.items ≡ s.later.items) (once : NoneTwice s1.keys) (new : IsNew s.keys s1.keys key i) where
    keys_more : Extends s.keys s1.keys
    keys_more = record { more = key ∷ []; is = new.added }

    pub key_at : slice_get s1.keys i ≡ Some key
    key_at =
        subst (λ (z : List InstanceKey). slice_get z i ≡ Some key) (sym new.added)
        (right_at s.keys (key ∷ []) i 0 key (let e = new.last in omega (arith, e)) refl)

    pub moved : Moved s s1
    moved =
        record {
          envs = extends_same s.envs.keys s1.envs.keys envs;
          keys = keys_more;
          done = done;
          here = here;
          later = later;
          tables = record { environments = subst NoneTwice (sym envs) r.taking.stored.tables.environments; instances = once };
        }

    abbrev fresh : Instance
    fresh = instance_by s.envs.keys key

    pub all_instances : instances_in s1 ≡ instances_in s ++ fresh ∷ []
    all_instances =
        ap (λ z. map (instance_by z) s1.keys) envs ∙ ap (map (instance_by s.envs.keys)) new.added ∙
        map-append (instance_by s.envs.keys) s.keys (key ∷ [])

    apart : Contains (instances_in s) fresh → ⊥
    apart c =
        let u = unmapped_in (instance_by s.envs.keys) s.keys fresh c in
        let e : u.0 ≡ key =
        one_instance s.envs.keys s1.keys r.taking.stored.tables.environments once (subst (λ z. HaveValues z s1.keys) envs s1.named.values) u.0 key
        (extends_in s.keys s1.keys u.0 keys_more u.1) (contains_from_at s1.keys i key key_at) u.2 in
        new.new (subst (Contains s.keys) e u.1)

    fresh_same : instance_by s1.envs.keys key ≡ fresh
    fresh_same = ap (λ z. instance_by z key) envs

    module _ (reach : (x : Item) → IsFirstOf core (instance_by s.envs.keys key) x → Reachable core text x) where
      reach_1 : (x : Item) → IsFirstOf core (instance_by s1.envs.keys key) x → Reachable core text x
      reach_1 x f = reach x (subst (λ (z : Instance). IsFirstOf core z x) fresh_same f)

      pub refused_new : (t : Found) (f : RunFault) → Adds key.start (IsFirstOf core (instance_by s1.envs.keys key)) budget s1 t (Err f) → Refuses core text budget f
      refused_new t Budget d =
          exceeds_grown core text budget key.start k (IsFirstOf core (instance_by s1.envs.keys key)) s1 t
          (moved_taking s s1 moved core text budget key.start k r.taking) d.grows reach_1 (d.fault refl)
      refused_new t Memory d = tt

      pub entered_new : (t : Found) (v : Waiting) → v.called.items ≡ w.called.items ++ not_called ∷ [] → v.callers.items ≡ w.callers.items →
          Adds key.start (IsFirstOf core (instance_by s1.envs.keys key)) budget s1 t (Ok tt) → IsEntered core text budget k key s t v i
      entered_new t v called cells d =
          let may : Item → Type 0 = IsFirstOf core (instance_by s1.envs.keys key) in
          let taking1 = moved_taking s s1 moved core text budget key.start k r.taking in
          let few : k ≤ length s1.here.items = taking1.few in
          let keeps = keeps_grown key.start may s1 t d.grows in
          let waits1 : IsWaiting core text key.start s1 (taken_in s k) v =
          waits_new core text key.start s s1 (taken_in s k) w v fresh (moved_named s s1 moved) (moved_means s s1 moved) all_instances apart
          (inside core text budget key.start k s s w r) called cells r.waiting in
          let taken1 : taken_in s1 k ≡ taken_in s k = moved_taken s s1 moved k in
          let taken2 : taken_in t k ≡ taken_in s1 k = taken_grown key.start may s1 t k d.grows few in
          record {
            run = record {
              taking = taking_grown core text budget key.start k may s1 t taking1 d.grows reach_1 (d.within taking1.within);
              firsts = λ callee c a nonterminal alternative has.
                  ⊎_elim
                  (λ (h : Contains (instances_in s) callee).
                  all_kept key.start may s1 t d.grows (first callee a)
                  (moved_back s s1 moved (first callee a) (r.firsts callee h a nonterminal alternative has)))
                  (λ (h : Contains (fresh ∷ []) callee).
                  let e : callee ≡ instance_by s1.envs.keys key = contains_one fresh callee h ∙ sym fresh_same in
                  d.has (first callee a)
                  (record {
                    number = a;
                    nonterminal = nonterminal;
                    alternative = alternative;
                    has = subst (λ (z : Instance). IsAlternative core z.nonterminal a nonterminal alternative) e has;
                    is = ap (λ (z : Instance). first z a) e;
                  }))
                  (Contains-append_cases (instances_in s) (fresh ∷ []) callee
                  (subst (λ (z : List Instance). Contains z callee) (keeps.instances ∙ all_instances) c));
              waiting = subst (λ (z : List Item). IsWaiting core text key.start t z v) (sym (taken2 ∙ taken1))
                  (waits_kept core text key.start s1 t (taken_in s k) v keeps waits1);
            };
            there = ap (λ (z : List InstanceKey). slice_get z i) d.grows.keys ∙ key_at;
            named = λ x n. keeps.named x (moved_named s s1 moved x n);
            same = λ x n. keeps.means_same x (moved_named s s1 moved x n) ∙ moved_means s s1 moved x n;
            envs = extends_then s.envs.keys s1.envs.keys t.envs.keys moved.envs d.grows.envs;
            done = d.grows.done ∙ done;
            here = extends_then s.here.items s1.here.items t.here.items (extends_same s.here.items s1.here.items here) d.grows.here;
            taken = taken2 ∙ taken1;
          }
