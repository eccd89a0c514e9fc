-- The next position is reached.
use Rattle.std.proofs.Common.{◌≡◌, ⊎_elim, inl, inr, ℕ, ◌+◌, ◌<◌, ◌≤◌, List, [], ◌∷◌, ◌++◌, Some, length, map, Contains, refl, sym, ap, ◌∙◌, subst, arith, slice_get, length-append, append_assoc}
use Rattle.std.proofs.lemmas.List.{append-nil}
use Rattle.std.proofs.lemmas.Option.{slice_get_within}
use Rattle.std.proofs.Math.Seq.{take-length}
use Rattle.std.proofs.lemmas.Bool.{cases_lt}
use Rattle.std.proofs.lemmas.List.Elements.{Contains-append_left, Contains-append_right, Contains-append_cases}
use Rattle.ig_text.specs.Input.{Input}
use Rattle.ig_text.proofs.Differing.{both_differ, pushed_differ}
use Rattle.ig_text.proofs.Lists.{at_from_contains, left_at, right_at, contains_one, none_in_nil, mapped_in, unmapped_in, same_map}
use Rattle.ig_run_moves.specs.Tables.{IsNamed, item_by}
use Rattle.ig_run_laws.specs.Rules.{IsCaller}
use Rattle.ig_item.specs.Items.{Item, Follows, first}
use Rattle.ig_item.specs.Tables.{instance_by}
use Rattle.ig_item.specs.WellKinded.{NoneTwice}
use Rattle.ig_item.specs.declared.core_grammar.Nonterminal.{Nonterminal}
use Rattle.ig_item.specs.declared.items.Instance.{Instance}
use Rattle.ig_item.specs.declared.items.InstanceKey.{InstanceKey}
use Rattle.ig_item.specs.declared.items.Item as stored
use Rattle.ig_plain.specs.declared.found.Found.{Found}
use Rattle.ig_run_moves.specs.declared.waiting.Waiting.{Waiting}
use Rattle.ig_plain.specs.Found.{means, instances_in, found_in, later_in, taken_in, Named, IsStored}
use Rattle.ig_plain.specs.Run.{IsWaiting, IsTaking, IsRun}
use Rattle.ig_plain.specs.Arrival.{IsParted, ArrivesWith}

pub once_left : {X : Type 0} (xs ys : List X) → NoneTwice (xs ++ ys) → NoneTwice xs
once_left xs ys n i j x p q = n i j x (left_at xs ys i x p) (left_at xs ys j x q)

once_apart : {X : Type 0} (xs : List X) (x : X) → NoneTwice (xs ++ x ∷ []) → Contains xs x → ⊥
once_apart xs x n c =
    let a = at_from_contains xs x c in
    let e = n a.0 (length xs) x (left_at xs (x ∷ []) a.0 x a.1) (right_at xs (x ∷ []) (length xs) 0 x (omega arith) refl) in
    let l = slice_get_within xs a.0 x a.1 in omega (arith, e, l)

pub parts_none : (position : ℕ) (here : List stored.Item) → IsParted position [] here here []
parts_none position here =
    record {
      here_now = λ x c. inl c;
      here_still = λ x c. c;
      moved = λ x c. absurd (none_in_nil x c);
      rest_now = λ x c. absurd (none_in_nil x c);
      here_once = λ n. once_left here [] n;
      rest_once = λ n. n;
      count = omega arith;
    }

-- one more of the later items is at the position
pub parts_here : (position : ℕ) (xs h0 h r : List stored.Item) (item : stored.Item) → IsParted position xs h0 h r → item.position ≡ position →
    IsParted position (xs ++ item ∷ []) h0 (h ++ item ∷ []) r
parts_here position xs h0 h r item p at =
    record {
      here_now = λ x c.
          ⊎_elim
          (λ (k : Contains h x). ⊎_elim (λ q. inl q) (λ q. inr (Contains-append_left xs (item ∷ []) x q.0, q.1)) (p.here_now x k))
          (λ (k : Contains (item ∷ []) x).
          inr (Contains-append_right xs (item ∷ []) x k, ap (λ (z : stored.Item). z.position) (contains_one item x k) ∙ at))
          (Contains-append_cases h (item ∷ []) x c);
      here_still = λ x c. Contains-append_left h (item ∷ []) x (p.here_still x c);
      moved = λ x c.
          ⊎_elim
          (λ (k : Contains xs x). ⊎_elim (λ q. inl (Contains-append_left h (item ∷ []) x q)) (λ q. inr q) (p.moved x k))
          (λ (k : Contains (item ∷ []) x). inl (Contains-append_right h (item ∷ []) x k))
          (Contains-append_cases xs (item ∷ []) x c);
      rest_now = λ x c. let q = p.rest_now x c in (Contains-append_left xs (item ∷ []) x q.0, q.1);
      here_once = λ n.
          let all : NoneTwice ((h0 ++ xs) ++ item ∷ []) = subst NoneTwice (sym (append_assoc h0 xs (item ∷ []))) n in
          pushed_differ h item (p.here_once (once_left (h0 ++ xs) (item ∷ []) all)) (λ c. once_apart (h0 ++ xs) item all (was item c));
      rest_once = λ n. p.rest_once (once_left xs (item ∷ []) n);
      count = let a = length-append xs (item ∷ []) in let b = length-append h (item ∷ []) in let l = p.count in omega (arith, a, b, l);
    }
  where
    was : (x : stored.Item) → Contains h x → Contains (h0 ++ xs) x
    was x c = ⊎_elim (λ k. Contains-append_left h0 xs x k) (λ k. Contains-append_right h0 xs x k.0) (p.here_now x c)

-- one more of the later items stays
pub parts_kept : (position : ℕ) (xs h0 h r : List stored.Item) (item : stored.Item) → IsParted position xs h0 h r → (item.position ≡ position → ⊥) →
    IsParted position (xs ++ item ∷ []) h0 h (r ++ item ∷ [])
parts_kept position xs h0 h r item p away =
    record {
      here_now = λ x c. ⊎_elim (λ q. inl q) (λ q. inr (Contains-append_left xs (item ∷ []) x q.0, q.1)) (p.here_now x c);
      here_still = p.here_still;
      moved = λ x c.
          ⊎_elim
          (λ (k : Contains xs x). ⊎_elim (λ q. inl q) (λ q. inr (Contains-append_left r (item ∷ []) x q)) (p.moved x k))
          (λ (k : Contains (item ∷ []) x). inr (Contains-append_right r (item ∷ []) x k))
          (Contains-append_cases xs (item ∷ []) x c);
      rest_now = λ x c.
          ⊎_elim (λ (k : Contains r x). let q = p.rest_now x k in (Contains-append_left xs (item ∷ []) x q.0, q.1))
          (λ (k : Contains (item ∷ []) x).
          (Contains-append_right xs (item ∷ []) x k, λ e. away (ap (λ (z : stored.Item). z.position) (sym (contains_one item x k)) ∙ e)))
          (Contains-append_cases r (item ∷ []) x c);
      here_once = λ n. p.here_once (once_left (h0 ++ xs) (item ∷ []) (subst NoneTwice (sym (append_assoc h0 xs (item ∷ []))) n));
      rest_once = λ n.
          pushed_differ r item (p.rest_once (once_left xs (item ∷ []) n)) (λ c. once_apart xs item n (p.rest_now item c).0);
      count = let a = length-append r (item ∷ []) in let b = length-append xs (item ∷ []) in let l = p.count in omega (arith, a, b, l);
    }

pub arrives_with : (position : ℕ) (a b : Found) (empty : List stored.Item) → empty ≡ [] → b.envs.keys ≡ a.envs.keys → b.keys ≡ a.keys →
    b.done.items ≡ a.done.items ++ a.here.items → IsParted position a.later.items empty b.here.items b.later.items → ArrivesWith position a b
arrives_with position a b empty none envs keys done p =
    let never : (x : stored.Item) → Contains empty x → ⊥ = λ x c. none_in_nil x (subst (λ (z : List stored.Item). Contains z x) none c) in
    record {
      envs = envs;
      keys = keys;
      done = done;
      here = λ x c. ⊎_elim (λ k. absurd (never x k)) (λ k. k) (p.here_now x c);
      moved = p.moved;
      later = p.rest_now;
      here_once = λ n. p.here_once (subst (λ (z : List stored.Item). NoneTwice (z ++ a.later.items)) (sym none) n);
      later_once = p.rest_once;
      count = let l = p.count in let e = ap length none in omega (arith, l, e);
    }

module _ (core : List Nonterminal) (text : Input) (budget p : ℕ) (a b : Found) (w : Waiting) (r : IsRun core text budget p (length a.here.items) a w)
    (m : ArrivesWith (p + 1) a b) where
  pub same : (x : stored.Item) → means b x ≡ means a x
  same x =
      ap (λ z. item_by z b.keys x) m.envs ∙ ap (λ (z : List InstanceKey). item_by a.envs.keys z x) m.keys

  named : (x : stored.Item) → Named a x → Named b x
  named x h = subst (λ z. IsNamed z b.keys x) (sym m.envs) (subst (λ (z : List InstanceKey). IsNamed a.envs.keys z x) (sym m.keys) h)

  -- all that was at the position or before is taken
  pub taken_all : taken_in b 0 ≡ found_in a
  taken_all =
      ap (map (means b)) (append-nil b.done.items ∙ m.done) ∙ same_map (means b) (means a) (a.done.items ++ a.here.items) (λ x c. same x)

  pub taken_was : taken_in a (length a.here.items) ≡ found_in a
  taken_was = ap (λ (z : List stored.Item). map (means a) (a.done.items ++ z)) (take-length a.here.items)

  stays : (x : Item) → Contains (found_in a ++ later_in a) x → Contains (found_in b ++ later_in b) x
  stays x c =
      ⊎_elim
      (λ (h : Contains (found_in a) x).
      let u = unmapped_in (means a) (a.done.items ++ a.here.items) x h in
      Contains-append_left (found_in b) (later_in b) x
      (subst (Contains (found_in b)) (same u.0 ∙ u.2)
      (mapped_in (means b) (b.done.items ++ b.here.items) u.0 (Contains-append_left b.done.items b.here.items u.0 (subst (λ (z : List stored.Item). Contains z u.0) (sym m.done) u.1)))))
      (λ (h : Contains (later_in a) x).
      let u = unmapped_in (means a) a.later.items x h in
      ⊎_elim
      (λ (k : Contains b.here.items u.0).
      Contains-append_left (found_in b) (later_in b) x
      (subst (Contains (found_in b)) (same u.0 ∙ u.2) (mapped_in (means b) (b.done.items ++ b.here.items) u.0 (Contains-append_right b.done.items b.here.items u.0 k))))
      (λ (k : Contains b.later.items u.0).
      Contains-append_right (found_in b) (later_in b) x (subst (Contains (later_in b)) (same u.0 ∙ u.2) (mapped_in (means b) b.later.items u.0 k))) (m.moved u.0 u.1))
      (Contains-append_cases (found_in a) (later_in a) x c)

  later_was : (x : Item) → Contains (later_in b) x → Contains (later_in a) x
  later_was x c =
      let u = unmapped_in (means b) b.later.items x c in
      subst (Contains (later_in a)) (sym (same u.0) ∙ u.2) (mapped_in (means a) a.later.items u.0 (m.later u.0 u.1).0)

  was_found : (x : Item) → Contains (found_in b ++ later_in b) x → Contains (found_in a ++ later_in a) x
  was_found x c =
      ⊎_elim
      (λ (h : Contains (found_in b) x).
      let u = unmapped_in (means b) (b.done.items ++ b.here.items) x h in
      ⊎_elim
      (λ (k : Contains b.done.items u.0).
      Contains-append_left (found_in a) (later_in a) x
      (subst (Contains (found_in a)) (sym (same u.0) ∙ u.2) (mapped_in (means a) (a.done.items ++ a.here.items) u.0 (subst (λ (z : List stored.Item). Contains z u.0) m.done k))))
      (λ (k : Contains b.here.items u.0).
      Contains-append_right (found_in a) (later_in a) x
      (subst (Contains (later_in a)) (sym (same u.0) ∙ u.2) (mapped_in (means a) a.later.items u.0 (m.here u.0 k).0)))
      (Contains-append_cases b.done.items b.here.items u.0 u.1))
      (λ (h : Contains (later_in b) x). Contains-append_right (found_in a) (later_in a) x (later_was x h))
      (Contains-append_cases (found_in b) (later_in b) x c)

  pub stored_next : IsStored (p + 1) b
  stored_next =
      record {
        tables = record {
          environments = subst NoneTwice (sym m.envs) r.taking.stored.tables.environments;
          instances = subst NoneTwice (sym m.keys) r.taking.stored.tables.instances;
        };
        before = λ x c.
            ⊎_elim (λ (h : Contains a.done.items x). let l = r.taking.stored.before x h in omega (arith, l))
            (λ (h : Contains a.here.items x). let e = r.taking.stored.at x h in omega (arith, e))
            (Contains-append_cases a.done.items a.here.items x (subst (λ (z : List stored.Item). Contains z x) m.done c));
        at = λ x c. (m.here x c).1;
        behind = λ x c. further x.position (r.taking.stored.behind x (m.later x c).0) (m.later x c).1;
        done_once = subst NoneTwice (sym m.done)
            (both_differ a.done.items a.here.items r.taking.stored.done_once r.taking.stored.here_once
            (λ x c d. let l = r.taking.stored.before x c in let e = r.taking.stored.at x d in omega (arith, l, e)));
        here_once = m.here_once r.taking.stored.later_once;
        later_once = m.later_once r.taking.stored.later_once;
      }
    where
      further : (k : ℕ) → p < k → (k ≡ p + 1 → ⊥) → p + 1 < k
      further k l e = ⊎_elim (λ (h : p + 1 < k). h) (λ (h : k ≤ p + 1). absurd (e (omega (arith, l, h)))) (cases_lt (p + 1) k)

  taking_next : IsTaking core text budget (p + 1) 0 b
  taking_next =
      record {
        stored = stored_next;
        reachable = λ x c. r.taking.reachable x (was_found x c);
        closed = λ x f.
            stays x (r.taking.closed x (subst (λ (z : List Item). Follows core text (Contains z) x) (taken_all ∙ sym taken_was) f));
        came = λ x c.
            let h = r.taking.came x (later_was x c) in
            (h.0, subst (λ (z : List Item). Contains z h.0) (taken_was ∙ sym taken_all) h.1, h.2);
        few = omega arith;
        within = let l = r.taking.within in let d = ap length m.done ∙ length-append a.done.items a.here.items in let c = m.count in omega (arith, l, d, c);
      }

  past_taken : (x : Item) → Contains (found_in a) x → x.position ≤ p
  past_taken x c =
      let u = unmapped_in (means a) (a.done.items ++ a.here.items) x c in
      let e : u.0.position ≡ x.position = ap (λ (z : Item). z.position) u.2 in
      ⊎_elim (λ (h : Contains a.done.items u.0). let l = r.taking.stored.before u.0 h in omega (arith, l, e))
      (λ (h : Contains a.here.items u.0). let l = r.taking.stored.at u.0 h in omega (arith, l, e))
      (Contains-append_cases a.done.items a.here.items u.0 u.1)

  instances_same : instances_in b ≡ instances_in a
  instances_same = ap (λ z. map (instance_by z) b.keys) m.envs ∙ ap (map (instance_by a.envs.keys)) m.keys

  pub arrives : IsRun core text budget (p + 1) 0 b w
  arrives =
      record {
        taking = taking_next;
        firsts = λ callee c k nonterminal alternative has.
            stays (first callee k) (r.firsts callee (subst (λ (z : List Instance). Contains z callee) instances_same c) k nonterminal alternative has);
        waiting = subst (λ (z : List Item). IsWaiting core text (p + 1) b z w) (taken_was ∙ sym taken_all) waits;
      }
    where
      old : (i : ℕ) (callee : Instance) → slice_get (instances_in b) i ≡ Some callee → slice_get (instances_in a) i ≡ Some callee
      old i callee e = subst (λ (z : List Instance). slice_get z i ≡ Some callee) instances_same e

      waits : IsWaiting core text (p + 1) b (taken_in a (length a.here.items)) w
      waits =
          record {
            lengths = r.waiting.lengths ∙ ap length (sym instances_same);
            callers = λ i callee called at known.
                let h = r.waiting.callers i callee called (old i callee at) known in
                record {
                  chain = h.chain;
                  chained = h.chained;
                  ended = h.ended;
                  named = λ y c. named y (h.named y c);
                  callers = λ y c.
                      let q = h.callers y c in let e = sym (same y) in
                      (subst (Contains (taken_in a (length a.here.items))) e q.0, subst (λ (z : Item). IsCaller core text z callee) e q.1);
                  all = λ x c d. let q = h.all x c d in (q.0, q.1, same q.0 ∙ q.2);
                };
            ends = λ i callee called at known. (
              λ e. let l = r.waiting.before i called (p + 1) known e in absurd (omega (arith, l)),
              λ e.
                  let l = past_taken e.item (subst (λ (z : List Item). Contains z e.item) taken_was e.among) in
                  let q = e.ends in absurd (omega (arith, l, q)),
            );
            known = λ x callee c d. subst (λ (z : List Instance). Contains z callee) (sym instances_same) (r.waiting.known x callee c d);
            before = λ i called e known is. let l = r.waiting.before i called e known is in omega (arith, l);
          }
