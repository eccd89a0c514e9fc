-- The trail of a run as one more item is taken.
use Rattle.std.proofs.Common.{◌≡◌, ◌⊎◌, ⊎_elim, inl, inr, ℕ, suc, ◌+◌, ◌<◌, List, [], ◌∷◌, ◌++◌, Some, length, map, take, Contains, refl, sym, ap, ◌∙◌, subst, arith, slice_get, append_assoc}
use Rattle.std.specs.Prelude.{option_map, Result, Ok, Err, OnOk}
use Rattle.std.proofs.lemmas.Option.{slice_get_within, slice_get-map}
use Rattle.std.proofs.lemmas.List.Elements.{Contains-append_right, Contains-append_left}
use Rattle.ig_text.specs.Input.{Input}
use Rattle.ig_text.proofs.Lists.{contains_from_at, left_at, right_at, sides, within_take, at_from_contains, unmapped_at, it_is_in}
use Rattle.ig_item.specs.Items.{Item, IsComplete}
use Rattle.ig_item.specs.WellKinded.{NoneTwice}
use Rattle.ig_item.specs.Gives.{NodeKey, Taken, Completes, Gives}
use Rattle.ig_item.specs.Ways.{Says, IsWay, IsFirstEnd, AreEnds}
use Rattle.ig_item.specs.declared.core_grammar.Nonterminal.{Nonterminal}
use Rattle.ig_item.specs.declared.items.Instance.{Instance}
use Rattle.ig_item.specs.declared.items.Item as stored
use Rattle.ig_item.specs.declared.run_fault.RunFault.{RunFault}
use Rattle.ig_item.specs.declared.ways.Way.{Way}
use Rattle.ig_plain.specs.declared.found.Found.{Found}
use Rattle.ig_plain.specs.declared.trail.Trail.{Trail}
use Rattle.ig_run_moves.specs.declared.waiting.Waiting.{Waiting}
use Rattle.ig_run_moves.specs.declared.waiting.Called.{Called}
use Rattle.ig_run_moves.specs.declared.waiting.Caller.{Caller}
use Rattle.ig_run_tables.specs.Extends.{Extends}
use Rattle.ig_plain.specs.Found.{means, found_in, later_in, taken_in, instances_in, Named, IsStored, Grows}
use Rattle.ig_plain.specs.Rules.{StandsAtBareCall}
use Rattle.ig_plain.specs.Trail.{FollowTrail, HasTrail, AreKnown, IsNext}
use Rattle.ig_plain.proofs.Extending.{extends_itself}
use Rattle.ig_plain.proofs.Growth.{extends_at, found_grown, found_named, means_grown}
use Rattle.ig_plain.proofs.Distinct.{different}
use Rattle.ig_plain.proofs.Running.{stored_grown, taken_grown, taken_step}
use Rattle.ig_plain.proofs.Recording.{meant_at}
use Rattle.ig_plain.proofs.Completes.{keeps_grown}
use Rattle.ig_plain.proofs.Trails.{EndsGrow, RecordsMore, IsGivenBack, ends_taken, first_on, not_yet, ends_none, gives_splits, follow}

-- one more is taken, and more was found
pub record Goes (s t : Found) (k : ℕ) (it : Item) : Type 0 where
  pub found : Extends (found_in s) (found_in t)
  pub once : NoneTwice (found_in t)
  pub instances : instances_in t ≡ instances_in s
  pub taken : taken_in t (suc k) ≡ taken_in s k ++ it ∷ []
  pub numbers : Extends (s.done.items ++ s.here.items) (t.done.items ++ t.here.items)
  pub same : (x : stored.Item) → Named s x → means t x ≡ means s x

-- callers stay known as more is found
pub known_more : (core : List Nonterminal) (s t : Found) (cells : List Caller) → Extends (s.done.items ++ s.here.items) (t.done.items ++ t.here.items) → ((x : stored.Item) → Named s x → means t x ≡ means s x) →
    AreKnown core s cells → AreKnown core t cells
known_more core s t cells numbers same known cell c =
    let k = known cell c in
    let found = contains_from_at (s.done.items ++ s.here.items) cell.number cell.item k.numbered in
    record {
      numbered = extends_at (s.done.items ++ s.here.items) (t.done.items ++ t.here.items) cell.number cell.item numbers k.numbered;
      bare = λ b. subst (StandsAtBareCall core) (sym (same cell.item (found_named s cell.item found))) (k.bare b);
    }

-- nothing is found twice
pub items_once : (p : ℕ) (s : Found) → IsStored p s → NoneTwice (found_in s)
items_once p s r i j x a b =
    different p s r i j x (left_at (found_in s) (later_in s) i x a) (left_at (found_in s) (later_in s) j x b)

module _ (p k : ℕ) (s : Found) (item : stored.Item) (r : IsStored p s) (at : slice_get s.here.items k ≡ Some item) where
  -- items were found at the position
  pub goes_here : (may : Item → Type 0) (t : Found) → Grows p may s t → Goes s t k (means s item)
  goes_here may t g =
      let lt = slice_get_within s.here.items k item at in
      record {
        found = record { more = map (means t) g.here.more; is = found_grown p may s t g };
        once = items_once p t (stored_grown p may s t r g);
        instances = (keeps_grown p may s t g).instances;
        taken = taken_grown p may s t (suc k) g (omega (arith, lt)) ∙ taken_step s k item at;
        numbers = record {
          more = g.here.more;
          is = ap (λ (z : List stored.Item). z ++ t.here.items) g.done ∙ ap (λ (z : List stored.Item). s.done.items ++ z) g.here.is ∙
              sym (append_assoc s.done.items s.here.items g.here.more);
        };
        same = λ x n. means_grown p may s t x g n;
      }

  -- nothing was found
  pub goes_still : Goes s s k (means s item)
  goes_still =
      record {
        found = extends_itself (found_in s);
        once = items_once p s r;
        instances = refl;
        taken = taken_step s k item at;
        numbers = extends_itself (s.done.items ++ s.here.items);
        same = λ x n. refl;
      }

-- each instance that is known ended last where it did, with the same first item
pub record EndsAlike (v w : Waiting) : Type 0 where
  pub was : (i : ℕ) (after : Called) → slice_get w.called.items i ≡ Some after →
      (before : Called) × (slice_get v.called.items i ≡ Some before) × (after.last_end ≡ before.last_end) × (after.last_done ≡ before.last_done)

-- nothing ended
pub ends_alike_itself : (w : Waiting) → EndsAlike w w
ends_alike_itself w = record { was = λ i after e. (after, e, refl, refl) }

module _ (s : Found) (k : ℕ) where
  -- the taken items are the first ones found
  pub taken_below : (y : Item) → Contains (taken_in s k) y → (d : ℕ) × (d < length s.done.items + k) × (slice_get (found_in s) d ≡ Some y)
  taken_below y c =
      let at = at_from_contains (taken_in s k) y c in
      let u = unmapped_at (means s) (s.done.items ++ take k s.here.items) at.0 y at.1 in
      let side : (at.0 < length s.done.items + k) × (slice_get (s.done.items ++ s.here.items) at.0 ≡ Some u.0) =
      ⊎_elim
      (λ (h : slice_get s.done.items at.0 ≡ Some u.0).
      (let l = slice_get_within s.done.items at.0 u.0 h in omega (arith, l), left_at s.done.items s.here.items at.0 u.0 h))
      (λ (h : (m : ℕ) × (at.0 ≡ length s.done.items + m) × (slice_get (take k s.here.items) m ≡ Some u.0)).
      let w = within_take s.here.items k h.0 u.0 h.2 in (omega (arith, h.1, w.0), right_at s.done.items s.here.items at.0 h.0 u.0 h.1 w.1))
      (sides s.done.items (take k s.here.items) at.0 u.0 u.1) in
      (at.0, side.0, slice_get-map (means s) (s.done.items ++ s.here.items) at.0 ∙ ap (option_map (means s)) side.1 ∙ ap Some u.2)

  -- the number of an item at the position
  pub stored_at : (number : ℕ) (item : stored.Item) → number ≡ length s.done.items + k → slice_get s.here.items k ≡ Some item →
      slice_get (s.done.items ++ s.here.items) number ≡ Some item
  stored_at number item is at = right_at s.done.items s.here.items number k item is at

module _ (core : List Nonterminal) (text : Input) (p k : ℕ) (s : Found) (w : Waiting) (trail : Trail) (item : stored.Item) (number : ℕ)
    (r : IsStored p s) (at : slice_get s.here.items k ≡ Some item) (is : number ≡ length s.done.items + k) (h : HasTrail core text p k s w trail) where
  abbrev it : Item
  it = means s item

  -- the item has its number
  pub at_number : slice_get (found_in s) number ≡ Some it
  at_number = meant_at s number item (stored_at s k number item is at)

  below : (y : Item) → Contains (taken_in s k) y → (d : ℕ) × (d < number) × (slice_get (found_in s) d ≡ Some y)
  below y c = let b = taken_below s k y c in (b.0, (let l = b.1 in omega (arith, l, is)), b.2)

  -- it isn't taken yet
  pub not_taken : Contains (taken_in s k) it → ⊥
  not_taken c = not_yet core (taken_in s k) (found_in s) (found_in s) number (extends_itself (found_in s)) (items_once p s r) below it at_number c

  abbrev now : List Item
  now = taken_in s k ++ it ∷ []

  pub known_now : Contains now it
  known_now = Contains-append_right (taken_in s k) (it ∷ []) it (it_is_in it)

  pub known_still : (y : Item) → Contains (taken_in s k) y → Contains now y
  known_still y c = Contains-append_left (taken_in s k) (it ∷ []) y c

  module _ (t : Found) (g : Goes s t k it) where
    -- it keeps its number
    pub at_now : slice_get (found_in t) number ≡ Some it
    at_now = extends_at (found_in s) (found_in t) number it g.found at_number

    -- the item is the one that is known now
    pub grow : EndsGrow core (Contains (taken_in s k)) (Contains now) (found_in s) (found_in t) number (λ key. Completes core it key)
    grow = ends_taken core (taken_in s k) (found_in s) (found_in t) number g.found g.once below it at_number

    -- callers stay known
    pub known_on : (cells : List Caller) → AreKnown core s cells → AreKnown core t cells
    known_on cells known = known_more core s t cells g.numbers g.same known

    -- a first end stays the first
    pub first_now : (key : NodeKey) (d : ℕ) → IsFirstEnd core (Contains (taken_in s k)) (found_in s) key d →
        IsFirstEnd core (Contains now) (found_in t) key d
    first_now key d f = first_on core (Contains (taken_in s k)) (Contains now) (found_in s) (found_in t) number
        (λ z. Completes core it z) grow key d f

    -- what comes from the item, or by it, is what was recorded
    pub goes_on : (may : Way → Item → Type 0) (v : Waiting) (u : Trail) → RecordsMore may s t trail u →
        AreEnds core (Contains now) (found_in t) u.ways →
        ((way : Way) (x : Item) → may way x → IsWay core text (Contains now) (found_in t) x way) →
        ((x prev : Item) (what : Taken) → Gives core text (Contains now) prev what x → (prev ≡ it) ⊎
        IsGivenBack core text (taken_in s k) it prev what x →
        Gives core text (Contains (taken_in s k)) prev what x ⊎
        ((way : Way) × may way x × Says core (Contains now) (found_in t) x.position way prev what)) →
        AreKnown core t v.callers.items →
        ((i : ℕ) (callee : Instance) (called : Called) → slice_get (instances_in s) i ≡ Some callee → slice_get v.called.items i ≡ Some called →
        called.last_end ≡ Some p → IsFirstEnd core (Contains now) (found_in t) (record { instance = callee; end = p }) called.last_done) →
        HasTrail core text p (suc k) t v u
    goes_on may v u more ends sound complete callers firsts =
        record {
          ways = subst (FollowTrail core text t u) (sym g.taken)
              (follow core text may s t trail u (taken_in s k) now number (λ key. Completes core it key) h.ways more grow ends sound
              (λ x prev what q.
              ⊎_elim (λ (i : Gives core text (Contains (taken_in s k)) prev what x). inl i)
              (λ (i : (prev ≡ it) ⊎ IsGivenBack core text (taken_in s k) it prev what x). complete x prev what q i)
              (gives_splits core text (taken_in s k) it prev what x q)));
          callers = callers;
          ends = λ i callee called there known last.
              subst (λ (z : List Item). IsFirstEnd core (Contains z) (found_in t) (record { instance = callee; end = p }) called.last_done)
              (sym g.taken)
              (firsts i callee called (subst (λ (z : List Instance). slice_get z i ≡ Some callee) g.instances there) known last);
          indexed = more.indexed h.indexed;
        }

    -- the ends that are known stay the first ones
    pub firsts_now : (v : Waiting) → EndsAlike w v → (i : ℕ) (callee : Instance) (called : Called) → slice_get (instances_in s) i ≡ Some callee →
        slice_get v.called.items i ≡ Some called → called.last_end ≡ Some p →
        IsFirstEnd core (Contains now) (found_in t) (record { instance = callee; end = p }) called.last_done
    firsts_now v alike i callee called there known last =
        let b = alike.was i called known in
        subst (IsFirstEnd core (Contains now) (found_in t) (record { instance = callee; end = p })) (sym b.3)
        (first_now (record { instance = callee; end = p }) b.0.last_done (h.ends i callee b.0 there b.1 (sym b.2 ∙ last)))

    -- the same of an item that stands before a step
    pub goes_unfinished : (IsComplete core it → ⊥) → (may : Way → Item → Type 0) (v : Waiting) (u : Trail) → RecordsMore may s t trail u →
        u.ways.ends ≡ trail.ways.ends → ((way : Way) (x : Item) → may way x → IsWay core text (Contains now) (found_in t) x way) →
        ((x : Item) (what : Taken) → Gives core text (Contains now) it what x → (way : Way) × may way x ×
        Says core (Contains now) (found_in t) x.position way it what) →
        AreKnown core t v.callers.items → EndsAlike w v → HasTrail core text p (suc k) t v u
    goes_unfinished unfinished may v u more same sound complete callers alike =
        goes_on may v u more
        (ends_none core (Contains (taken_in s k)) (Contains now) (found_in s) (found_in t) number
        (λ z. Completes core it z) grow trail.ways u.ways same
        (λ key q d e. unfinished q.complete) h.ways.ends)
        sound
        (λ x prev what q i.
        inr (⊎_elim
        (λ (e : prev ≡ it).
        subst (λ (z : Item). (way : Way) × may way x × Says core (Contains now) (found_in t) x.position way z what) (sym e)
        (complete x what (subst (λ (z : Item). Gives core text (Contains now) z what x) e q)))
        (λ (b : IsGivenBack core text (taken_in s k) it prev what x). absurd (unfinished b.completes.complete)) i))
        callers (firsts_now v alike)

-- the trail and the number of the item that is taken next
pub trail_at : (core : List Nonterminal) (text : Input) (p : ℕ) (item : stored.Item) (number : ℕ) (s : Found) (w : Waiting) (trail : Trail) →
    IsStored p s →
    IsNext core text item number s w trail → (k : ℕ) → slice_get s.here.items k ≡ Some item →
    HasTrail core text item.position k s w trail × (number ≡ length s.done.items + k)
trail_at core text p item number s w trail r next k at =
    let e : next.place ≡ k = r.here_once next.place k item next.at at in (
      subst (λ (z : ℕ). HasTrail core text item.position z s w trail) e next.trail,
      next.numbered ∙ ap (λ (z : ℕ). length s.done.items + z) e,
    )

-- one more is taken
pub trail_next : (core : List Nonterminal) (text : Input) (p q k : ℕ) (t : Found) (w : Waiting) (u : Trail) (result : Result (Unit {0}) RunFault) →
    q ≡ p →
    OnOk result (HasTrail core text q (suc k) t w u) → OnOk result (HasTrail core text p (k + 1) t w u)
trail_next core text p q k t w u (Ok o) e h =
    let n : suc k ≡ k + 1 = omega arith in
    subst (λ (z : ℕ). HasTrail core text p z t w u) n (subst (λ (z : ℕ). HasTrail core text z (suc k) t w u) e h)
trail_next core text p q k t w u (Err f) e h = tt
