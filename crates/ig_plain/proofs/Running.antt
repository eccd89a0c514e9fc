-- An item is taken: what a run keeps of the items that it has found.
use Rattle.std.proofs.Common.{◌≡◌, ◌⊎◌, ⊎_elim, inl, inr, ℕ, suc, ◌<◌, ◌≤◌, List, [], ◌∷◌, ◌++◌, Some, length, map, take, Contains, refl, sym, ap, ◌∙◌, subst, arith, slice_get, length-append, append_assoc}
use Rattle.std.specs.Prelude.{Err}
use Rattle.std.proofs.lemmas.List.{append-nil, map-append, take-append-le}
use Rattle.std.proofs.lemmas.Option.{slice_get_within}
use Rattle.std.proofs.lemmas.List.Elements.{Contains-append_left, Contains-append_right, Contains-append_cases}
use Rattle.ig_text.specs.Input.{Input}
use Rattle.ig_text.proofs.Differing.{pushed_differ}
use Rattle.ig_text.proofs.Lists.{at_from_contains, contains_from_at, within_take, contains_one, among_all, it_is_in, mapped_in, unmapped_in, same_map, take_step}
use Rattle.ig_item.specs.Items.{Item, Follows, Reachable, MoreThan}
use Rattle.ig_item.specs.Laws.{ReachableIsClosed}
use Rattle.ig_item.specs.WellKinded.{NoneTwice}
use Rattle.ig_item.specs.declared.core_grammar.Nonterminal.{Nonterminal}
use Rattle.ig_item.specs.declared.items.Item as stored
use Rattle.ig_item.specs.declared.run_fault.RunFault.{RunFault}
use Rattle.ig_item.specs.declared.run_fault.RunFault.TheVariants.{Budget, Memory}
use Rattle.ig_plain.specs.declared.found.Found.{Found}
use Rattle.ig_run_tables.specs.Extends.{Extends}
use Rattle.ig_run_moves.specs.Rules.{ReadsTo}
use Rattle.ig_run_moves.specs.Tables.{IsNamed}
use Rattle.ig_run_laws.specs.Rules.{After}
use Rattle.ig_plain.specs.Found.{means, found_in, later_in, taken_in, count, Named, IsStored, Grows, GrowsLater, Has, Adds}
use Rattle.ig_plain.specs.Run.{IsTaking, Refuses}
use Rattle.ig_plain.proofs.Growth.{extends_cases, means_list, all_kept, found_from, later_same, found_named, means_kept, named_more}
use Rattle.ig_plain.proofs.Following.{splits, after_reachable}
use Rattle.ig_plain.proofs.Distinct.{too_many, one_item}
use Rattle.ig_plain.proofs.Terminals.{from_one}

-- what more items at the position keep
pub stored_grown : (p : ℕ) (may : Item → Type 0) (a b : Found) → IsStored p a → Grows p may a b → IsStored p b
stored_grown p may a b r g =
    record {
      tables = record { environments = g.envs_once r.tables.environments; instances = subst NoneTwice (sym g.keys) r.tables.instances };
      before = λ x c. r.before x (subst (λ (z : List stored.Item). Contains z x) g.done c);
      at = λ x c. ⊎_elim (λ (h : Contains a.here.items x). r.at x h) (λ (h : Contains g.here.more x). g.at x h) (extends_cases a.here.items b.here.items x g.here c);
      behind = λ x c. r.behind x (subst (λ (z : List stored.Item). Contains z x) g.later c);
      done_once = subst NoneTwice (sym g.done) r.done_once;
      here_once = g.here_once r.here_once;
      later_once = subst NoneTwice (sym g.later) r.later_once;
    }

-- the taken items, of those found
taken_named : (s : Found) (k : ℕ) → (x : stored.Item) → Contains (s.done.items ++ take k s.here.items) x → Named s x
taken_named s k x c =
    ⊎_elim (s.named.done x) (λ (h : Contains (take k s.here.items) x). s.named.here x (among_all s.here.items k x h)) (Contains-append_cases s.done.items (take k s.here.items) x c)

pub taken_found : (s : Found) (k : ℕ) (x : Item) → Contains (taken_in s k) x → Contains (found_in s) x
taken_found s k x c =
    let u = unmapped_in (means s) (s.done.items ++ take k s.here.items) x c in
    subst (Contains (found_in s)) u.2
    (mapped_in (means s) (s.done.items ++ s.here.items) u.0
    (⊎_elim (λ (h : Contains s.done.items u.0). Contains-append_left s.done.items s.here.items u.0 h)
    (λ (h : Contains (take k s.here.items) u.0). Contains-append_right s.done.items s.here.items u.0 (among_all s.here.items k u.0 h))
    (Contains-append_cases s.done.items (take k s.here.items) u.0 u.1)))

pub item_found : (s : Found) (k : ℕ) (item : stored.Item) → slice_get s.here.items k ≡ Some item → Contains (found_in s) (means s item)
item_found s k item at =
    mapped_in (means s) (s.done.items ++ s.here.items) item (Contains-append_right s.done.items s.here.items item (contains_from_at s.here.items k item at))

-- one more is taken
pub taken_step : (s : Found) (k : ℕ) (item : stored.Item) → slice_get s.here.items k ≡ Some item →
    taken_in s (suc k) ≡ taken_in s k ++ means s item ∷ []
taken_step s k item at =
    ap (map (means s)) (ap (λ (z : List stored.Item). s.done.items ++ z) (take_step s.here.items k item at) ∙ sym (append_assoc s.done.items (take k s.here.items) (item ∷ []))) ∙
    map-append (means s) (s.done.items ++ take k s.here.items) (item ∷ [])

-- more items at the position change nothing in those taken
pub taken_grown : (p : ℕ) (may : Item → Type 0) (a b : Found) (k : ℕ) → Grows p may a b → k ≤ length a.here.items →
    taken_in b k ≡ taken_in a k
taken_grown p may a b k g few =
    let front : take k b.here.items ≡ take k a.here.items = ap (take k) g.here.is ∙ take-append-le k a.here.items g.here.more few in
    ap (map (means b)) (ap (λ (z : List stored.Item). z ++ take k b.here.items) g.done ∙ ap (λ (z : List stored.Item). a.done.items ++ z) front) ∙
    means_list p may a b g (a.done.items ++ take k a.here.items) (taken_named a k)

module _ (core : List Nonterminal) (text : Input) (law : ReachableIsClosed) (budget p k : ℕ) (s : Found) (item : stored.Item)
    (r : IsTaking core text budget p k s) (at : slice_get s.here.items k ≡ Some item) where
  it_reachable : Reachable core text (means s item)
  it_reachable = r.reachable (means s item) (Contains-append_left (found_in s) (later_in s) (means s item) (item_found s k item at))

  taken_reachable : (y : Item) → Contains (taken_in s k) y → Reachable core text y
  taken_reachable y c = r.reachable y (Contains-append_left (found_in s) (later_in s) y (taken_found s k y c))

  pub follows_reachable : (x : Item) → After core text (Contains (taken_in s k)) (means s item) x → Reachable core text x
  follows_reachable x a = after_reachable core text law (taken_in s k) (means s item) x taken_reachable it_reachable a

  lt : k < length s.here.items
  lt = slice_get_within s.here.items k item at

  module _ (may : Item → Type 0) (t : Found) (g : Grows p may s t) (sound : (x : Item) → may x → After core text (Contains (taken_in s k)) (means s item) x) where
    reachable_now : (x : Item) → Contains (found_in t ++ later_in t) x → Reachable core text x
    reachable_now x c =
        ⊎_elim
        (λ (h : Contains (found_in t) x).
        ⊎_elim (λ (i : Contains (found_in s) x). r.reachable x (Contains-append_left (found_in s) (later_in s) x i))
        (λ (i : may x). follows_reachable x (sound x i)) (found_from p may s t g x h))
        (λ (h : Contains (later_in t) x).
        r.reachable x (Contains-append_right (found_in s) (later_in s) x (subst (λ (z : List Item). Contains z x) (later_same p may s t g) h)))
        (Contains-append_cases (found_in t) (later_in t) x c)

    pub exceeds : budget < count t → MoreThan core text budget
    exceeds more = too_many p t (stored_grown p may s t r.stored g) core text budget reachable_now more

    pub taken_now : taken_in t (suc k) ≡ taken_in s k ++ means s item ∷ []
    taken_now = taken_grown p may s t (suc k) g (omega (arith, lt)) ∙ taken_step s k item at

    pub takes_found : Has may t → count t ≤ budget →
        ((x : Item) → After core text (Contains (taken_in s k)) (means s item) x → may x ⊎ Contains (found_in s ++ later_in s) x) →
        IsTaking core text budget p (suc k) t
    takes_found has within complete =
        record {
          stored = stored_grown p may s t r.stored g;
          reachable = reachable_now;
          closed = λ x f.
              ⊎_elim (λ (h : Follows core text (Contains (taken_in s k)) x). all_kept p may s t g x (r.closed x h))
              (λ (h : After core text (Contains (taken_in s k)) (means s item) x).
              ⊎_elim (λ (i : may x). has x i) (λ (i : Contains (found_in s ++ later_in s) x). all_kept p may s t g x i) (complete x h))
              (splits core text (taken_in s k) (means s item) x
              (subst (λ (z : List Item). Follows core text (Contains z) x) taken_now f));
          came = λ x c.
              let h = r.came x (subst (λ (z : List Item). Contains z x) (later_same p may s t g) c) in
              (h.0, subst (λ (z : List Item). Contains z h.0) (sym taken_now) (Contains-append_left (taken_in s k) (means s item ∷ []) h.0 h.1), h.2);
          few = let n = length-append s.here.items g.here.more in let e = ap length g.here.is in omega (arith, lt, n, e);
          within = within;
        }

  pub refuses : (may : Item → Type 0) (t : Found) (f : RunFault) → Adds p may budget s t (Err f) →
      ((x : Item) → may x → After core text (Contains (taken_in s k)) (means s item) x) → Refuses core text budget f
  refuses may t Budget d sound = exceeds may t d.grows sound (d.fault refl)
  refuses may t Memory d sound = tt

  -- an item is added at a later position
  module _ (x : Item) (t : Found) (g : GrowsLater p x s t) (past : ReadsTo core text (means s item) x)
      (follows : After core text (Contains (taken_in s k)) (means s item) x) where
    kept_keys : Extends s.keys t.keys
    kept_keys = record { more = []; is = g.keys ∙ sym (append-nil s.keys) }

    pub named_still : (y : stored.Item) → Named s y → Named t y
    named_still y n =
        subst (λ z. IsNamed t.envs.keys z y) (sym g.keys) (named_more s.envs.keys t.envs.keys s.keys y g.envs n)

    pub means_still : (y : stored.Item) → Named s y → means t y ≡ means s y
    means_still y n = means_kept s.envs.keys t.envs.keys s.keys t.keys y g.envs kept_keys s.named.values n

    pub found_still : found_in t ≡ found_in s
    found_still =
        ap (map (means t)) (ap (λ (z : List stored.Item). z ++ t.here.items) g.done ∙ ap (λ (z : List stored.Item). s.done.items ++ z) g.here) ∙
        same_map (means t) (means s) (s.done.items ++ s.here.items) (λ y c. means_still y (found_named s y c))

    later_now : later_in t ≡ later_in s ++ x ∷ []
    later_now =
        ap (map (means t)) g.later ∙ map-append (means t) s.later.items (g.item ∷ []) ∙
        ap (λ (z : List Item). z ++ means t g.item ∷ []) (same_map (means t) (means s) s.later.items (λ y c. means_still y (s.named.later y c))) ∙
        ap (λ (z : Item). later_in s ++ z ∷ []) g.is

    pub taken_later : taken_in t (suc k) ≡ taken_in s k ++ means s item ∷ []
    taken_later =
        ap (map (means t))
        (ap (λ (z : List stored.Item). z ++ take (suc k) t.here.items) g.done ∙ ap (λ (z : List stored.Item). s.done.items ++ take (suc k) z) g.here) ∙
        same_map (means t) (means s) (s.done.items ++ take (suc k) s.here.items) (λ y c. means_still y (taken_named s (suc k) y c)) ∙
        taken_step s k item at

    -- it isn't among the later items: it would have come from an item that was taken before
    new_later : Contains (later_in s) x → ⊥
    new_later c =
        let h = r.came x c in
        let e : h.0 ≡ means s item = from_one core text h.0 (means s item) x h.2 past in
        let u = unmapped_in (means s) (s.done.items ++ take k s.here.items) h.0 h.1 in
        let same : u.0 ≡ item =
        one_item s.envs.keys s.keys r.stored.tables.environments r.stored.tables.instances s.named.values u.0 item
        (taken_named s k u.0 u.1) (s.named.here item (contains_from_at s.here.items k item at)) (u.2 ∙ e) in
        ⊎_elim
        (λ (i : Contains s.done.items u.0).
        let q = r.stored.before u.0 i in let w = r.stored.at item (contains_from_at s.here.items k item at) in let z = ap (λ (y : stored.Item). y.position) same in
        omega (arith, q, w, z))
        (λ (i : Contains (take k s.here.items) u.0).
        let a = at_from_contains (take k s.here.items) u.0 i in
        let b = within_take s.here.items k a.0 u.0 a.1 in
        let q = r.stored.here_once a.0 k item (b.1 ∙ ap Some same) at in omega (arith, q, b.0))
        (Contains-append_cases s.done.items (take k s.here.items) u.0 u.1)

    stored_new : Contains s.later.items g.item → ⊥
    stored_new c =
        new_later (subst (Contains (later_in s)) (sym (means_still g.item (s.named.later g.item c)) ∙ g.is) (mapped_in (means s) s.later.items g.item c))

    stored_later : IsStored p t
    stored_later =
        record {
          tables = record { environments = g.envs_once r.stored.tables.environments; instances = subst NoneTwice (sym g.keys) r.stored.tables.instances };
          before = λ y c. r.stored.before y (subst (λ (z : List stored.Item). Contains z y) g.done c);
          at = λ y c. r.stored.at y (subst (λ (z : List stored.Item). Contains z y) g.here c);
          behind = λ y c.
              ⊎_elim (λ (h : Contains s.later.items y). r.stored.behind y h)
              (λ (h : Contains (g.item ∷ []) y). subst (λ (z : stored.Item). p < z.position) (sym (contains_one g.item y h)) g.behind)
              (Contains-append_cases s.later.items (g.item ∷ []) y (subst (λ (z : List stored.Item). Contains z y) g.later c));
          done_once = subst NoneTwice (sym g.done) r.stored.done_once;
          here_once = subst NoneTwice (sym g.here) r.stored.here_once;
          later_once = subst NoneTwice (sym g.later)
              (pushed_differ s.later.items g.item r.stored.later_once stored_new);
        }

    all_sides : (y : Item) → Contains (found_in t ++ later_in t) y → Contains (found_in s ++ later_in s) y ⊎ (y ≡ x)
    all_sides y c =
        ⊎_elim (λ (h : Contains (found_in t) y). inl (Contains-append_left (found_in s) (later_in s) y (subst (λ (z : List Item). Contains z y) found_still h)))
        (λ (h : Contains (later_in t) y).
        ⊎_elim (λ (i : Contains (later_in s) y). inl (Contains-append_right (found_in s) (later_in s) y i)) (λ (i : Contains (x ∷ []) y). inr (contains_one x y i))
        (Contains-append_cases (later_in s) (x ∷ []) y (subst (λ (z : List Item). Contains z y) later_now h)))
        (Contains-append_cases (found_in t) (later_in t) y c)

    pub all_later : (y : Item) → Contains (found_in s ++ later_in s) y → Contains (found_in t ++ later_in t) y
    all_later y c =
        ⊎_elim (λ (h : Contains (found_in s) y). Contains-append_left (found_in t) (later_in t) y (subst (λ (z : List Item). Contains z y) (sym found_still) h))
        (λ (h : Contains (later_in s) y).
        Contains-append_right (found_in t) (later_in t) y (subst (λ (z : List Item). Contains z y) (sym later_now) (Contains-append_left (later_in s) (x ∷ []) y h)))
        (Contains-append_cases (found_in s) (later_in s) y c)

    there_later : Contains (found_in t ++ later_in t) x
    there_later =
        Contains-append_right (found_in t) (later_in t) x (subst (λ (z : List Item). Contains z x) (sym later_now) (Contains-append_right (later_in s) (x ∷ []) x (it_is_in x)))

    reachable_later : (y : Item) → Contains (found_in t ++ later_in t) y → Reachable core text y
    reachable_later y c =
        ⊎_elim (λ (h : Contains (found_in s ++ later_in s) y). r.reachable y h)
        (λ (h : y ≡ x). subst (Reachable core text) (sym h) (follows_reachable x follows)) (all_sides y c)

    pub exceeds_later : budget < count t → MoreThan core text budget
    exceeds_later more = too_many p t stored_later core text budget reachable_later more

    pub takes_later : count t ≤ budget → ((y : Item) → After core text (Contains (taken_in s k)) (means s item) y → y ≡ x) →
        IsTaking core text budget p (suc k) t
    takes_later within only =
        record {
          stored = stored_later;
          reachable = reachable_later;
          closed = λ y f.
              ⊎_elim (λ (h : Follows core text (Contains (taken_in s k)) y). all_later y (r.closed y h))
              (λ (h : After core text (Contains (taken_in s k)) (means s item) y).
              subst (Contains (found_in t ++ later_in t)) (sym (only y h)) there_later)
              (splits core text (taken_in s k) (means s item) y
              (subst (λ (z : List Item). Follows core text (Contains z) y) taken_later f));
          came = λ y c.
              ⊎_elim
              (λ (i : Contains (later_in s) y).
              let h = r.came y i in
              (h.0, subst (λ (z : List Item). Contains z h.0) (sym taken_later) (Contains-append_left (taken_in s k) (means s item ∷ []) h.0 h.1), h.2))
              (λ (i : Contains (x ∷ []) y). (
                means s item,
                subst (λ (z : List Item). Contains z (means s item)) (sym taken_later) (Contains-append_right (taken_in s k) (means s item ∷ []) (means s item) (it_is_in (means s item))),
                subst (ReadsTo core text (means s item)) (sym (contains_one x y i)) past,
              ))
              (Contains-append_cases (later_in s) (x ∷ []) y (subst (λ (z : List Item). Contains z y) later_now c));
          few = let e = ap length g.here in omega (arith, lt, e);
          within = within;
        }
