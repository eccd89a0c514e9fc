-- Which items wait for an instance, and where it ended, as items are taken.
use Rattle.std.proofs.Common.{◌≡◌, ◌⊎◌, ⊎_elim, inl, inr, ℕ, zero, suc, ◌<◌, List, [], ◌∷◌, ◌++◌, Some, length, set, Contains, refl, sym, ap, ◌∙◌, subst, arith, slice_get}
use Rattle.std.proofs.lemmas.Option.{same_Some, slice_get-get_or, get_or_from_slice_get}
use Rattle.std.proofs.lemmas.List.Elements.{Contains-append_left, Contains-append_right, Contains-append_cases}
use Rattle.std.proofs.lemmas.List.{length-set}
use Rattle.std.proofs.lemmas.Bool.{cases_eq}
use Rattle.ig_text.specs.Input.{Input}
use Rattle.ig_text.proofs.Lists.{it_is_in, contains_one}
use Rattle.ig_item.specs.Items.{Item, IsComplete}
use Rattle.ig_item.specs.WellKinded.{NoneTwice}
use Rattle.ig_plain.proofs.Following.{not_both}
use Rattle.ig_item.specs.declared.core_grammar.Nonterminal.{Nonterminal}
use Rattle.ig_item.specs.declared.items.Instance.{Instance}
use Rattle.ig_item.specs.declared.items.Item as stored
use Rattle.ig_plain.specs.declared.found.Found.{Found}
use Rattle.ig_run_moves.specs.declared.waiting.Waiting.{Waiting}
use Rattle.ig_run_moves.specs.declared.waiting.Called.{Called}
use Rattle.ig_run_moves.specs.declared.waiting.Caller.{Caller}
use Rattle.ig_plain.specs.Found.{means, Named, instances_in}
use Rattle.ig_run_laws.specs.Rules.{IsCaller}
use Rattle.ig_run_moves.specs.Waiting.{called_at, not_called, with_end}
use Rattle.ig_plain.specs.Run.{HasCallers, HasEnd, IsWaiting}

-- what tables that grow keep
pub record Keeps (s t : Found) : Type 0 where
  pub named : (x : stored.Item) → Named s x → Named t x
  pub means_same : (x : stored.Item) → Named s x → means t x ≡ means s x
  pub instances : instances_in t ≡ instances_in s

module _ (core : List Nonterminal) (text : Input) (p : ℕ) where
  -- the callers of an instance, where an item is taken that doesn't call it
  pub callers_still : (s t : Found) (taken : List Item) (it : Item) (cells : List Caller) (head last : ℕ) (callee : Instance) → Keeps s t →
      (IsCaller core text it callee → ⊥) → HasCallers core text s taken cells head last callee → HasCallers core text t (taken ++ it ∷ []) cells head last callee
  callers_still s t taken it cells head last callee keeps apart h =
      record {
        chain = h.chain;
        chained = h.chained;
        ended = h.ended;
        named = λ y c. keeps.named y (h.named y c);
        callers = λ y c.
            let q = h.callers y c in let e = sym (keeps.means_same y (h.named y c)) in
            (subst (Contains (taken ++ it ∷ [])) e (Contains-append_left taken (it ∷ []) (means s y) q.0), subst (λ (z : Item). IsCaller core text z callee) e q.1);
        all = λ x c d.
            ⊎_elim (λ (i : Contains taken x). let q = h.all x i d in (q.0, q.1, keeps.means_same q.0 (h.named q.0 q.1) ∙ q.2))
            (λ (i : Contains (it ∷ []) x). absurd (apart (subst (λ (z : Item). IsCaller core text z callee) (contains_one it x i) d)))
            (Contains-append_cases taken (it ∷ []) x c);
      }

  -- an end, where an item is taken that is no complete one of the instance
  pub end_still : (taken : List Item) (it : Item) (callee : Instance) → (it.instance ≡ callee → IsComplete core it → it.position ≡ p → ⊥) →
      HasEnd core (taken ++ it ∷ []) callee p → HasEnd core taken callee p
  end_still taken it callee apart h =
      ⊎_elim (λ (i : Contains taken h.item). record { item = h.item; among = i; of = h.of; complete = h.complete; ends = h.ends })
      (λ (i : Contains (it ∷ []) h.item).
      let e = contains_one it h.item i in
      absurd (apart (ap (λ (z : Item). z.instance) (sym e) ∙ h.of) (subst (IsComplete core) e h.complete) (ap (λ (z : Item). z.position) (sym e) ∙ h.ends)))
      (Contains-append_cases taken (it ∷ []) h.item h.among)

  pub end_more : (taken more : List Item) (callee : Instance) → HasEnd core taken callee p → HasEnd core (taken ++ more) callee p
  end_more taken more callee h =
      record { item = h.item; among = Contains-append_left taken more h.item h.among; of = h.of; complete = h.complete; ends = h.ends }

  -- an item is taken that neither calls nor is complete
  pub waits_alone : (s t : Found) (taken : List Item) (it : Item) (w : Waiting) → Keeps s t →
      ((callee : Instance) → IsCaller core text it callee → ⊥) → (IsComplete core it → ⊥) → IsWaiting core text p s taken w →
      IsWaiting core text p t (taken ++ it ∷ []) w
  waits_alone s t taken it w keeps apart unfinished r =
      record {
        lengths = r.lengths ∙ ap length (sym keeps.instances);
        callers = λ i callee called at known.
            callers_still s t taken it w.callers.items called.first called.last callee keeps (apart callee)
            (r.callers i callee called (subst (λ (z : List Instance). slice_get z i ≡ Some callee) keeps.instances at) known);
        ends = λ i callee called at known.
            let e = r.ends i callee called (subst (λ (z : List Instance). slice_get z i ≡ Some callee) keeps.instances at) known in
            (λ h. end_more taken (it ∷ []) callee (e.0 h), λ h. e.1 (end_still taken it callee (λ a b c. unfinished b) h));
        known = λ x callee c d.
            subst (λ (z : List Instance). Contains z callee) (sym keeps.instances)
            (⊎_elim (λ (i : Contains taken x). r.known x callee i d)
            (λ (i : Contains (it ∷ []) x). absurd (apart callee (subst (λ (z : Item). IsCaller core text z callee) (contains_one it x i) d)))
            (Contains-append_cases taken (it ∷ []) x c));
        before = r.before;
      }

-- a member of a list in which one was replaced
pub set_cases : {X : Type 0} (xs : List X) (m : ℕ) (y : X) (i : ℕ) (z : X) → slice_get (set xs m y) i ≡ Some z →
    ((i ≡ m) × (z ≡ y) × (m < length xs)) ⊎ ((i ≡ m → ⊥) × (slice_get xs i ≡ Some z))
set_cases [] m y i z e = cc
set_cases (x ∷ xs) zero y zero z e = inl (refl, sym (same_Some y z e), omega arith)
set_cases (x ∷ xs) zero y (suc i) z e = inr (λ h. omega (arith, h), e)
set_cases (x ∷ xs) (suc m) y zero z e = inr (λ h. omega (arith, h), e)
set_cases (x ∷ xs) (suc m) y (suc i) z e =
    ⊎_elim (λ h. inl (ap suc h.0, h.1, omega (arith, h.2))) (λ h. inr (λ q. h.0 (omega (arith, q)), h.1)) (set_cases xs m y i z e)

-- p is the last end of instance m now, and no other changed
pub record Ended (w v : Waiting) (m p : ℕ) : Type 0 where
  pub lengths : length v.called.items ≡ length w.called.items
  pub cells : v.callers.items ≡ w.callers.items
  pub was : (i : ℕ) (after : Called) → slice_get v.called.items i ≡ Some after →
      (before : Called) × (slice_get w.called.items i ≡ Some before) × (after.first ≡ before.first) × (after.last ≡ before.last) ×
      (((i ≡ m) × (after.last_end ≡ Some p)) ⊎ ((i ≡ m → ⊥) × (after.last_end ≡ before.last_end)))

pub ended_set : (w v : Waiting) (m p done : ℕ) → m < length w.called.items → v.callers.items ≡ w.callers.items →
    v.called.items ≡ set w.called.items m (with_end (called_at w m) p done) → Ended w v m p
ended_set w v m p done lt cells is =
    record {
      lengths = ap length is ∙ length-set w.called.items m (with_end (called_at w m) p done);
      cells = cells;
      was = λ i after e.
          ⊎_elim
          (λ h. (
            called_at w m,
            subst (λ (z : ℕ). slice_get w.called.items z ≡ Some (called_at w m)) (sym h.0) (slice_get-get_or w.called.items m not_called lt),
            ap (λ (z : Called). z.first) h.1,
            ap (λ (z : Called). z.last) h.1,
            inl (h.0, ap (λ (z : Called). z.last_end) h.1),
          ))
          (λ h. (after, h.1, refl, refl, inr (h.0, refl)))
          (set_cases w.called.items m (with_end (called_at w m) p done) i after
          (subst (λ (z : List Called). slice_get z i ≡ Some after) is e));
    }

pub ended_already : (w : Waiting) (m p : ℕ) → (called_at w m).last_end ≡ Some p → Ended w w m p
ended_already w m p is =
    record {
      lengths = refl;
      cells = refl;
      was = λ i after e. (after, e, refl, refl, same i after e (cases_eq i m));
    }
  where
    same : (i : ℕ) (after : Called) → slice_get w.called.items i ≡ Some after → (i ≡ m) ⊎ (i ≡ m → ⊥) →
        ((i ≡ m) × (after.last_end ≡ Some p)) ⊎ ((i ≡ m → ⊥) × (after.last_end ≡ after.last_end))
    same i after e (inl h) =
        let q : called_at w m ≡ after = ap (called_at w) (sym h) ∙ get_or_from_slice_get w.called.items i after not_called e in
        inl (h, sym (ap (λ (z : Called). z.last_end) q) ∙ is)
    same i after e (inr h) = inr (h, refl)

module _ (core : List Nonterminal) (text : Input) (p : ℕ) where
  -- a complete item is taken
  pub waits_complete : (s t : Found) (taken : List Item) (it : Item) (w v : Waiting) (m : ℕ) → Keeps s t → NoneTwice (instances_in s) → Ended w v m p →
      slice_get (instances_in s) m ≡ Some it.instance → IsComplete core it → it.position ≡ p → IsWaiting core text p s taken w →
      IsWaiting core text p t (taken ++ it ∷ []) v
  waits_complete s t taken it w v m keeps once ended at complete here r =
      let apart : (callee : Instance) → IsCaller core text it callee → ⊥ =
      λ callee c. not_both core text it c.calls.names _ c.calls.before complete in
      let back : (i : ℕ) (callee : Instance) → slice_get (instances_in t) i ≡ Some callee → slice_get (instances_in s) i ≡ Some callee =
      λ i callee e. subst (λ (z : List Instance). slice_get z i ≡ Some callee) keeps.instances e in
      record {
        lengths = ended.lengths ∙ r.lengths ∙ ap length (sym keeps.instances);
        callers = λ i callee after e known.
            let h = ended.was i after known in
            subst (λ (z : List Caller). HasCallers core text t (taken ++ it ∷ []) z after.first after.last callee) (sym ended.cells)
            (subst (λ (z : ℕ). HasCallers core text t (taken ++ it ∷ []) w.callers.items z after.last callee) (sym h.2)
            (subst (λ (z : ℕ). HasCallers core text t (taken ++ it ∷ []) w.callers.items h.0.first z callee) (sym h.3)
            (callers_still core text p s t taken it w.callers.items h.0.first h.0.last callee keeps (apart callee)
            (r.callers i callee h.0 (back i callee e) h.1))));
        ends = λ i callee after e known.
            let h = ended.was i after known in
            ⊎_elim
            (λ (q : (i ≡ m) × (after.last_end ≡ Some p)). (
              λ x. record {
                item = it;
                among = Contains-append_right taken (it ∷ []) it (it_is_in it);
                of = same_Some it.instance callee (sym at ∙ ap (slice_get (instances_in s)) (sym q.0) ∙ back i callee e);
                complete = complete;
                ends = here;
              },
              λ x. q.1,
            ))
            (λ (q : (i ≡ m → ⊥) × (after.last_end ≡ h.0.last_end)).
            let d = r.ends i callee h.0 (back i callee e) h.1 in (
              λ x. end_more core text p taken (it ∷ []) callee (d.0 (sym q.1 ∙ x)),
              λ x. q.1 ∙ d.1 (end_still core text p taken it callee
                  (λ a b c. q.0 (once i m callee (back i callee e) (at ∙ ap Some a))) x),
            )) h.4;
        known = λ x callee c d.
            subst (λ (z : List Instance). Contains z callee) (sym keeps.instances)
            (⊎_elim (λ (i : Contains taken x). r.known x callee i d)
            (λ (i : Contains (it ∷ []) x). absurd (apart callee (subst (λ (z : Item). IsCaller core text z callee) (contains_one it x i) d)))
            (Contains-append_cases taken (it ∷ []) x c));
        before = λ i after e known is.
            let h = ended.was i after known in
            ⊎_elim (λ (q : (i ≡ m) × (after.last_end ≡ Some p)). let z = same_Some p e (sym q.1 ∙ is) in omega (arith, z))
            (λ (q : (i ≡ m → ⊥) × (after.last_end ≡ h.0.last_end)). r.before i h.0 e h.1 (sym q.1 ∙ is)) h.4;
      }
