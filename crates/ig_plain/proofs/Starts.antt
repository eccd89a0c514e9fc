-- A run starts with the first item of the root.
use Rattle.std.proofs.Common.{◌≡◌, ⊎_elim, ℕ, zero, suc, List, [], ◌∷◌, ◌++◌, Some, None, length, map, Contains, refl, sym, ap, ◌∙◌, subst, arith, slice_get, Bool, true, false}
use Rattle.std.specs.Prelude.{Result, Ok, Err, MatchResult}
use Rattle.std.proofs.lemmas.List.{append-nil}
use Rattle.std.proofs.lemmas.Option.{same_Some, get_or_from_slice_get}
use Rattle.std.proofs.lemmas.List.Elements.{Contains-append_cases}
use Rattle.ig_text.specs.Input.{Input}
use Rattle.ig_text.proofs.Lists.{contains_from_at, contains_one, none_in_nil, unmapped_in}
use Rattle.ig_expr.specs.declared.value.Value.{Value}
use Rattle.ig_item.specs.Core.{IsAlternative, numbered}
use Rattle.ig_item.specs.Items as items
use Rattle.ig_item.specs.Items.{Item, Follows, Reachable, first, root_instance}
use Rattle.ig_item.specs.Laws.{ReachableIsClosed}
use Rattle.ig_item.specs.Tables.{instance_by}
use Rattle.ig_item.specs.WellKinded.{NoneTwice, IsWellKinded}
use Rattle.ig_item.specs.declared.core_grammar.Nonterminal.{Nonterminal}
use Rattle.ig_item.specs.declared.core_grammar.CoreAlt.{CoreAlt}
use Rattle.ig_item.specs.declared.items.Instance.{Instance}
use Rattle.ig_item.specs.declared.items.InstanceKey.{InstanceKey}
use Rattle.ig_item.specs.declared.items.Item as stored
use Rattle.ig_item.specs.declared.run_fault.RunFault.{RunFault}
use Rattle.ig_item.specs.declared.run_fault.RunFault.TheVariants.{Budget, Memory}
use Rattle.ig_plain.specs.declared.found.Found.{Found}
use Rattle.ig_run_moves.specs.declared.waiting.Waiting.{Waiting}
use Rattle.ig_run_moves.specs.declared.waiting.Called.{Called}
use Rattle.ig_run_tables.specs.Extends.{IsNew}
use Rattle.ig_plain.specs.Found.{means, instances_in, found_in, later_in, taken_in, count, IsStored, Grows, Adds}
use Rattle.ig_run_laws.specs.Rules.{IsFirstOf}
use Rattle.ig_run_moves.specs.Waiting.{not_called}
use Rattle.ig_plain.specs.Run as run
use Rattle.ig_plain.specs.Run.{IsRun, Refuses}
use Rattle.ig_plain.specs.Arrival.{IsNothing}
use Rattle.ig_plain.proofs.Growth.{found_from, later_same}
use Rattle.ig_plain.proofs.Distinct.{too_many}
use Rattle.ig_plain.proofs.Running.{stored_grown}
use Rattle.ig_plain.proofs.Completes.{keeps_grown}

-- the root's key alone is in the table
pub alone : (keys after : List InstanceKey) (key : InstanceKey) (i : ℕ) (added : Bool) → keys ≡ [] → slice_get after i ≡ Some key →
    (added ≡ true → IsNew keys after key i) → (added ≡ false → after ≡ keys) → after ≡ key ∷ []
alone keys after key i true none at new old = (new refl).added ∙ ap (λ (z : List InstanceKey). z ++ key ∷ []) none
alone keys after key i false none at new old =
    let e : after ≡ [] = old refl ∙ none in
    let c : slice_get [] i ≡ Some key = ap (λ (z : List InstanceKey). slice_get z i) (sym e) ∙ at in cc

module _ (core : List Nonterminal) (text : Input) (law : ReachableIsClosed) (kinded : IsWellKinded core) (budget : ℕ) (s : Found) (w : Waiting) (empty : IsNothing s w)
    (s1 : Found) (env : ℕ) (envs_once : NoneTwice s1.envs.keys) (there : slice_get s1.envs.keys env ≡ Some []) (done : s1.done.items ≡ s.done.items)
    (here : s1.here.items ≡ s.here.items) (later : s1.later.items ≡ s.later.items)
    (keys : s1.keys ≡ record { nonterminal = 0; env = env; start = 0 } ∷ []) where
  abbrev key : InstanceKey
  key = record { nonterminal = 0; env = env; start = 0 }

  no_done : s1.done.items ≡ []
  no_done = done ∙ empty.done

  no_here : s1.here.items ≡ []
  no_here = here ∙ empty.here

  no_later : s1.later.items ≡ []
  no_later = later ∙ empty.later

  none_of : (xs : List stored.Item) → xs ≡ [] → (x : stored.Item) → Contains xs x → ⊥
  none_of xs e x c = none_in_nil x (subst (λ (z : List stored.Item). Contains z x) e c)

  once_none : (xs : List stored.Item) → xs ≡ [] → NoneTwice xs
  once_none xs e i j x p q = absurd (none_of xs e x (contains_from_at xs i x p))

  key_once : NoneTwice s1.keys
  key_once = subst NoneTwice (sym keys) once_one
    where
      once_one : NoneTwice (key ∷ [])
      once_one zero zero x p q = refl
      once_one zero (suc j) x p q = cc
      once_one (suc i) zero x p q = cc
      once_one (suc i) (suc j) x p q = cc

  stored_1 : IsStored 0 s1
  stored_1 =
      record {
        tables = record { environments = envs_once; instances = key_once };
        before = λ x c. absurd (none_of s1.done.items no_done x c);
        at = λ x c. absurd (none_of s1.here.items no_here x c);
        behind = λ x c. absurd (none_of s1.later.items no_later x c);
        done_once = once_none s1.done.items no_done;
        here_once = once_none s1.here.items no_here;
        later_once = once_none s1.later.items no_later;
      }

  abbrev root : Instance
  root = instance_by s1.envs.keys key

  root_is : root ≡ root_instance
  root_is = ap (λ (z : List Value). record { nonterminal = 0; values = z; start = 0 }) (get_or_from_slice_get s1.envs.keys env [] [] there)

  -- the root has one alternative
  one_alternative : IsAlternative core 0 1 kinded.root.nonterminal kinded.root.alternative
  one_alternative = record { there = kinded.root.first; has = ap (λ z. numbered z 1) kinded.root.single }

  only_one : (a : ℕ) (m : Nonterminal) (c : CoreAlt) → IsAlternative core 0 a m c → a ≡ 1
  only_one zero m c h = let e = h.has in cc
  only_one (suc zero) m c h = refl
  only_one (suc (suc a)) m c h =
      let e : m ≡ kinded.root.nonterminal = same_Some m kinded.root.nonterminal (sym h.there ∙ kinded.root.first) in
      let f : slice_get (kinded.root.alternative ∷ []) (suc a) ≡ Some c =
      ap (λ z. slice_get z (suc a)) (sym (ap (λ (z : Nonterminal). z.alternatives) e ∙ kinded.root.single)) ∙ h.has in cc

  reach : (x : Item) → IsFirstOf core root x → Reachable core text x
  reach x f =
      law core text x
      (items.root x (f.is ∙ ap (λ (z : Instance). first z f.number) root_is ∙
      ap (first root_instance) (only_one f.number f.nonterminal f.alternative f.has)))

  module _ (t : Found) (g : Grows 0 (IsFirstOf core root) s1 t) where
    reachable : (x : Item) → Contains (found_in t ++ later_in t) x → Reachable core text x
    reachable x c =
        ⊎_elim
        (λ (h : Contains (found_in t) x).
        ⊎_elim
        (λ (i : Contains (found_in s1) x).
        let u = unmapped_in (means s1) (s1.done.items ++ s1.here.items) x i in
        absurd (⊎_elim (none_of s1.done.items no_done u.0) (none_of s1.here.items no_here u.0) (Contains-append_cases s1.done.items s1.here.items u.0 u.1)))
        (λ (i : IsFirstOf core root x). reach x i) (found_from 0 (IsFirstOf core root) s1 t g x h))
        (λ (h : Contains (later_in t) x).
        let u = unmapped_in (means s1) s1.later.items x (subst (λ (z : List Item). Contains z x) (later_same 0 (IsFirstOf core root) s1 t g) h) in
        absurd (none_of s1.later.items no_later u.0 u.1))
        (Contains-append_cases (found_in t) (later_in t) x c)

    none_taken : (x : Item) → Contains (taken_in t 0) x → ⊥
    none_taken x c =
        let u = unmapped_in (means t) (t.done.items ++ []) x c in
        none_of t.done.items (g.done ∙ no_done) u.0 (subst (λ (z : List stored.Item). Contains z u.0) (append-nil t.done.items) u.1)

    none_later : (x : Item) → Contains (later_in t) x → ⊥
    none_later x c =
        let u = unmapped_in (means t) t.later.items x c in none_of t.later.items (g.later ∙ no_later) u.0 u.1

    by_root : (x : Item) → Follows core text (Contains (taken_in t 0)) x → x ≡ first root_instance 1
    by_root x (items.root y e) = e
    by_root x (items.test y names c z k before holds e) = absurd (none_taken y k)
    by_root x (items.bind y names name c v z k before has e) = absurd (none_taken y k)
    by_root x (items.terminal y names what label excluded j z k before matches free e) = absurd (none_taken y k)
    by_root x (items.call y callee label excluded nonterminal a alternative z k calls at e) = absurd (none_taken y k)
    by_root x (items.return y done label excluded z k l calls complete free e) = absurd (none_taken y k)

  count_1 : count s1 ≡ 0
  count_1 = let a = ap length no_done in let b = ap length no_here in let c = ap length no_later in omega (arith, a, b, c)

  refused : (t : Found) (f : RunFault) → Adds 0 (IsFirstOf core root) budget s1 t (Err f) → Refuses core text budget f
  refused t Budget d = too_many 0 t (stored_grown 0 (IsFirstOf core root) s1 t stored_1 d.grows) core text budget (reachable t d.grows) (d.fault refl)
  refused t Memory d = tt

  pub starts : (v : Waiting) (t : Found) (result : Result (Unit {0}) RunFault) → v.called.items ≡ w.called.items ++ not_called ∷ [] →
      Adds 0 (IsFirstOf core root) budget s1 t result → MatchResult result (λ u. IsRun core text budget 0 0 t v) (Refuses core text budget)
  starts v t (Err f) called d = refused t f d
  starts v t (Ok u) called d =
      let may : Item → Type 0 = IsFirstOf core root in
      let all : instances_in t ≡ root ∷ [] = (keeps_grown 0 may s1 t d.grows).instances ∙ ap (map (instance_by s1.envs.keys)) keys in
      let one : v.called.items ≡ not_called ∷ [] = called ∙ ap (λ (z : List Called). z ++ not_called ∷ []) empty.called in
      let known_one : (i : ℕ) (c : Called) → slice_get v.called.items i ≡ Some c → c ≡ not_called =
      λ i c e. contains_one not_called c (subst (λ (z : List Called). Contains z c) one (contains_from_at v.called.items i c e)) in
      record {
        taking = record {
          stored = stored_grown 0 may s1 t stored_1 d.grows;
          reachable = reachable t d.grows;
          closed = λ x f.
              subst (Contains (found_in t ++ later_in t)) (sym (by_root t d.grows x f ∙ ap (λ (z : Instance). first z 1) (sym root_is)))
              (d.has (first root 1)
              (record {
                number = 1;
                nonterminal = kinded.root.nonterminal;
                alternative = kinded.root.alternative;
                has = one_alternative;
                is = refl;
              }));
          came = λ x c. absurd (none_later t d.grows x c);
          few = omega arith;
          within = d.within (let e = count_1 in omega (arith, e));
        };
        firsts = λ callee c a nonterminal alternative has.
            let e : callee ≡ root = contains_one root callee (subst (λ (z : List Instance). Contains z callee) all c) in
            d.has (first callee a)
            (record {
              number = a;
              nonterminal = nonterminal;
              alternative = alternative;
              has = subst (λ (z : Instance). IsAlternative core z.nonterminal a nonterminal alternative) e has;
              is = ap (λ (z : Instance). first z a) e;
            });
        waiting = record {
          lengths = ap length one ∙ sym (ap length all);
          callers = λ i callee c at known.
              subst (λ (z : Called). run.HasCallers core text t (taken_in t 0) v.callers.items z.first z.last callee) (sym (known_one i c known))
              (record {
                chain = [];
                chained = run.none;
                ended = run.nowhere;
                named = λ y k. absurd (none_in_nil y k);
                callers = λ y k. absurd (none_in_nil y k);
                all = λ x k e. absurd (none_taken t d.grows x k);
              });
          ends = λ i callee c at known. (
            λ e. let z : None ≡ Some 0 = sym (ap (λ (q : Called). q.last_end) (known_one i c known)) ∙ e in cc,
            λ e. absurd (none_taken t d.grows e.item e.among),
          );
          known = λ x callee k e. absurd (none_taken t d.grows x k);
          before = λ i c e known is. let z : None ≡ Some e = sym (ap (λ (q : Called). q.last_end) (known_one i c known)) ∙ is in cc;
        };
      }
