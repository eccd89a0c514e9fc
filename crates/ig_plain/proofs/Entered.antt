-- The trail of a run stays as tables grow and an instance is entered.
use Rattle.std.proofs.Common.{◌≡◌, ⊎_elim, inl, ℕ, ◌+◌, List, [], ◌∷◌, ◌++◌, Some, length, Contains, refl, sym, ap, ◌∙◌, subst, arith, slice_get, append_assoc}
use Rattle.std.specs.Prelude.{Ok, slice_index_or}
use Rattle.std.proofs.lemmas.Option.{slice_get_within, slice_get-get_or}
use Rattle.std.proofs.lemmas.List.Elements.{Contains-append_right}
use Rattle.ig_text.specs.Input.{Input}
use Rattle.ig_text.proofs.Lists.{contains_from_at, sides, contains_one, unmapped_in, it_is_in}
use Rattle.ig_item.specs.Items.{Item}
use Rattle.ig_item.specs.Tables.{instance_by}
use Rattle.ig_item.specs.WellKinded.{NoneTwice}
use Rattle.ig_item.specs.Ways as ways
use Rattle.ig_item.specs.Ways.{IsWay, IsFirstEnd}
use Rattle.ig_item.specs.declared.core_grammar.Nonterminal.{Nonterminal}
use Rattle.ig_item.specs.declared.items.Instance.{Instance}
use Rattle.ig_item.specs.declared.items.InstanceKey.{InstanceKey}
use Rattle.ig_item.specs.declared.items.Item as stored
use Rattle.ig_item.specs.declared.ways.Way.{Way}
use Rattle.ig_item.specs.declared.ways.Way.TheVariants.{Begin}
use Rattle.ig_plain.specs.declared.found.Found.{Found}
use Rattle.ig_plain.specs.declared.trail.Trail.{Trail}
use Rattle.ig_run_moves.specs.declared.waiting.Waiting.{Waiting}
use Rattle.ig_run_moves.specs.declared.waiting.Called.{Called}
use Rattle.ig_run_tables.specs.Extends.{Extends, IsNew}
use Rattle.ig_run_moves.specs.Tables.{no_key}
use Rattle.ig_run_laws.specs.Rules.{IsFirstOf}
use Rattle.ig_plain.specs.Found.{means, found_in, taken_in, instances_in, Named, IsStored, Adds}
use Rattle.ig_run_moves.specs.Waiting.{not_called}
use Rattle.ig_plain.specs.Run.{IsRun}
use Rattle.ig_plain.specs.Trail.{By, Records, FollowTrail, HasTrail, AreKnown, Unfound}
use Rattle.ig_plain.proofs.Extending.{extends_same}
use Rattle.ig_plain.proofs.Growth.{extends_or, found_named, means_grown}
use Rattle.ig_plain.proofs.Distinct.{one_instance}
use Rattle.ig_plain.proofs.Running.{stored_grown, taken_grown}
use Rattle.ig_plain.proofs.Completes.{keeps_grown}
use Rattle.ig_plain.proofs.Moving.{Moved, moved_found, moved_later, moved_taken, moved_stored, moved_taking, moved_means}
use Rattle.ig_plain.proofs.Instances as instances
use Rattle.ig_plain.proofs.Instances.{moved_keeps, moved_same}
use Rattle.ig_plain.proofs.Trails.{EndsGrow, RecordsMore, ends_found, ends_none, first_on, follow, more_here, more_none}
use Rattle.ig_plain.proofs.Indexing.{indexed_same}
use Rattle.ig_plain.proofs.Onward.{items_once, known_more, taken_below}

-- what is taken stays, and what was found and recorded follows from it
pub trail_kept : (core : List Nonterminal) (text : Input) (p k : ℕ) (s t : Found) (w v : Waiting) (trail u : Trail) (may : Way → Item → Type 0) →
    HasTrail core text p k s w trail → RecordsMore may s t trail u → Extends (found_in s) (found_in t) → NoneTwice (found_in t) →
    taken_in t k ≡ taken_in s k → u.ways.ends ≡ trail.ways.ends →
    ((way : Way) (x : Item) → may way x → IsWay core text (Contains (taken_in s k)) (found_in t) x way) → AreKnown core t v.callers.items →
    ((i : ℕ) (callee : Instance) (called : Called) → slice_get (instances_in t) i ≡ Some callee → slice_get v.called.items i ≡ Some called →
    called.last_end ≡ Some p → (slice_get (instances_in s) i ≡ Some callee) × (slice_get w.called.items i ≡ Some called)) →
    HasTrail core text p k t v u
trail_kept core text p k s t w v trail u may h more found once taken same sound callers known =
    let was = taken_in s k in
    let n = length s.done.items + k in
    let grow : EndsGrow core (Contains was) (Contains was) (found_in s) (found_in t) n (λ key. ⊥) =
    ends_found core was (found_in s) (found_in t) n found once (taken_below s k) in
    record {
      ways = subst (FollowTrail core text t u) (sym taken)
          (follow core text may s t trail u was was n (λ key. ⊥) h.ways more grow
          (ends_none core (Contains was) (Contains was) (found_in s) (found_in t) n (λ key. ⊥) grow trail.ways u.ways same
          (λ key q. absurd q) h.ways.ends)
          sound (λ x prev what q. inl q));
      callers = callers;
      ends = λ i callee called there at last.
          let o = known i callee called there at last in
          subst (λ (z : List Item). IsFirstEnd core (Contains z) (found_in t) (record { instance = callee; end = p }) called.last_done) (sym taken)
          (first_on core (Contains was) (Contains was) (found_in s) (found_in t) n (λ key. ⊥) grow
          (record { instance = callee; end = p }) called.last_done
          (h.ends i callee called o.0 o.1 last));
      indexed = more.indexed h.indexed;
    }

module _ (core : List Nonterminal) (text : Input) (p k : ℕ) (s t : Found) (w : Waiting) (trail : Trail) (r : IsStored p s) (m : Moved s t)
    (h : HasTrail core text p k s w trail) where
  -- tables grow, and the items stay
  trail_in : (v : Waiting) → AreKnown core s v.callers.items →
      ((i : ℕ) (callee : Instance) (called : Called) → slice_get (instances_in t) i ≡ Some callee → slice_get v.called.items i ≡ Some called →
      called.last_end ≡ Some p → (slice_get (instances_in s) i ≡ Some callee) × (slice_get w.called.items i ≡ Some called)) →
      HasTrail core text p k t v trail
  trail_in v callers known =
      let found = moved_found s t m in
      trail_kept core text p k s t w v trail trail (λ way x. ⊥) h
      (more_none core text s t trail trail (taken_in s k) h.ways found (moved_later s t m) refl refl refl
      (indexed_same s.done.items t.done.items s.here.items t.here.items trail.ways.firsts trail.ways.firsts trail.returned trail.returned
      m.done m.here refl refl))
      (extends_same (found_in s) (found_in t) found) (items_once p t (moved_stored s t m p r)) (moved_taken s t m k)
      refl (λ way x q. absurd q)
      (known_more core s t v.callers.items
      (extends_same (s.done.items ++ s.here.items) (t.done.items ++ t.here.items)
      (ap (λ (z : List stored.Item). z ++ t.here.items) m.done ∙ ap (λ (z : List stored.Item). s.done.items ++ z) m.here))
      (moved_means s t m) callers) known

  -- without a new instance
  pub trail_moved : t.keys ≡ s.keys → HasTrail core text p k t w trail
  trail_moved same =
      trail_in w h.callers
      (λ i callee called there at last.
      (subst (λ (z : List Instance). slice_get z i ≡ Some callee) (moved_keeps s t m same).instances there, at))

  -- with a new instance, which has no callers and no ends
  pub trail_added : (v : Waiting) (fresh : Instance) → length w.called.items ≡ length (instances_in s) →
      instances_in t ≡ instances_in s ++ fresh ∷ [] →
      v.called.items ≡ w.called.items ++ not_called ∷ [] → v.callers.items ≡ w.callers.items → HasTrail core text p k t v trail
  trail_added v fresh lens all called cells =
      trail_in v (subst (AreKnown core s) (sym cells) h.callers)
      (λ i callee c there at last.
      ⊎_elim
      (λ (q : slice_get w.called.items i ≡ Some c).
      ⊎_elim (λ (e : slice_get (instances_in s) i ≡ Some callee). (e, q))
      (λ (e : (j : ℕ) × (i ≡ length (instances_in s) + j) × (slice_get (fresh ∷ []) j ≡ Some callee)).
      let l = slice_get_within w.called.items i c q in absurd (omega (arith, l, e.1, lens)))
      (sides (instances_in s) (fresh ∷ []) i callee (subst (λ (z : List Instance). slice_get z i ≡ Some callee) all there)))
      (λ (q : (j : ℕ) × (i ≡ length w.called.items + j) × (slice_get (not_called ∷ []) j ≡ Some c)).
      let e : not_called ≡ c = sym (contains_one not_called c (contains_from_at (not_called ∷ []) q.0 c q.2)) in
      absurd (never p (ap (λ (z : Called). z.last_end) e ∙ last)))
      (sides w.called.items (not_called ∷ []) i c (subst (λ (z : List Called). slice_get z i ≡ Some c) called at)))
    where
      never : (n : ℕ) → not_called.last_end ≡ Some n → ⊥
      never n e = cc

module _ (core : List Nonterminal) (text : Input) (budget k : ℕ) (key : InstanceKey) (s : Found) (w : Waiting) (trail : Trail)
    (r : IsRun core text budget key.start k s w) (h : HasTrail core text key.start k s w trail) where
  -- the instance is there
  pub old_on : (t : Found) → t.envs.keys ≡ s.envs.keys → t.done.items ≡ s.done.items → t.here.items ≡ s.here.items → t.later.items ≡ s.later.items →
      t.keys ≡ s.keys → HasTrail core text key.start k t w trail
  old_on t envs done here later keys =
      trail_moved core text key.start k s t w trail r.taking.stored (moved_same core text budget k key s w r t envs done here later keys) h keys

  -- the instance is new: its first items were added
  pub new_on : (s1 : Found) (i : ℕ) (envs : s1.envs.keys ≡ s.envs.keys) (done : s1.done.items ≡ s.done.items) (here : s1.here.items ≡ s.here.items)
      (later : s1.later.items ≡ s.later.items) (once : NoneTwice s1.keys) (new : IsNew s.keys s1.keys key i) (t : Found) (v : Waiting) (u : Trail) →
      v.called.items ≡ w.called.items ++ not_called ∷ [] → v.callers.items ≡ w.callers.items →
      Adds key.start (IsFirstOf core (instance_by s1.envs.keys key)) budget s1 t (Ok tt) →
      Records (By Begin (IsFirstOf core (instance_by s1.envs.keys key))) s1 t trail u → HasTrail core text key.start k t v u
  new_on s1 i envs done here later once new t v u called cells d rec =
      let callee = instance_by s1.envs.keys key in
      let m = instances.moved core text budget k key s w r s1 i envs done here later once new in
      let taking = moved_taking s s1 m core text budget key.start k r.taking in
      let h1 : HasTrail core text key.start k s1 v trail =
      trail_added core text key.start k s s1 w trail r.taking.stored m h v (instance_by s.envs.keys key) r.waiting.lengths
      (instances.all_instances core text budget k key s w r s1 i envs done here later once new) called cells in
      trail_kept core text key.start k s1 t v v trail u (By Begin (IsFirstOf core callee)) h1
      (more_here core text s1 t trail u (taken_in s1 k) h1.ways (By Begin (IsFirstOf core callee)) rec) rec.found
      (items_once key.start t (stored_grown key.start (IsFirstOf core callee) s1 t taking.stored d.grows))
      (taken_grown key.start (IsFirstOf core callee) s1 t k d.grows taking.few)
      rec.ends
      (λ way x q. subst (IsWay core text (Contains (taken_in s1 k)) (found_in t) x) (sym q.0) (ways.begin (ap (λ (z : Item). z.dot) q.1.is)))
      (known_more core s1 t v.callers.items
      (record {
        more = d.grows.here.more;
        is = ap (λ (z : List stored.Item). z ++ t.here.items) d.grows.done ∙ ap (λ (z : List stored.Item). s1.done.items ++ z) d.grows.here.is ∙
            sym (append_assoc s1.done.items s1.here.items d.grows.here.more);
      })
      (λ x n. means_grown key.start (IsFirstOf core callee) s1 t x d.grows n) h1.callers)
      (λ j other c there at last. (
        subst (λ (z : List Instance). slice_get z j ≡ Some other)
            (keeps_grown key.start (IsFirstOf core callee) s1 t d.grows).instances there,
        at,
      ))

-- the first items of a new instance aren't found
pub new_firsts : (core : List Nonterminal) (s s1 : Found) (key : InstanceKey) (i : ℕ) → NoneTwice s.envs.keys →
    NoneTwice s1.keys → IsNew s.keys s1.keys key i → s1.envs.keys ≡ s.envs.keys → s1.done.items ≡ s.done.items → s1.here.items ≡ s.here.items →
    s1.later.items ≡ s.later.items → Unfound s1 (IsFirstOf core (instance_by s1.envs.keys key))
new_firsts core s s1 key i envs_once once new envs done here later x m c =
    let u = unmapped_in (means s1) (s1.done.items ++ s1.here.items) x c in
    let inside : Named s u.0 =
    found_named s u.0
    (subst (λ (z : List stored.Item). Contains z u.0)
    (ap (λ (z : List stored.Item). z ++ s1.here.items) done ∙ ap (λ (z : List stored.Item). s.done.items ++ z) here) u.1) in
    let grown : Extends s.keys s1.keys = record { more = key ∷ []; is = new.added } in
    let named1 = found_named s1 u.0 u.1 in
    let its = slice_index_or s1.keys u.0.instance no_key in
    let its_there : Contains s1.keys its = contains_from_at s1.keys u.0.instance its (slice_get-get_or s1.keys u.0.instance no_key named1.instance) in
    let key_there : Contains s1.keys key =
    subst (λ (z : List InstanceKey). Contains z key) (sym new.added) (Contains-append_right s.keys (key ∷ []) key (it_is_in key)) in
    let same : its ≡ key =
    one_instance s1.envs.keys s1.keys (subst NoneTwice (sym envs) envs_once) once s1.named.values its key its_there key_there
    (ap (λ (z : Item). z.instance) (u.2 ∙ m.is)) in
    let old : its ≡ slice_index_or s.keys u.0.instance no_key = extends_or s.keys s1.keys u.0.instance no_key grown inside.instance in
    new.new (contains_from_at s.keys u.0.instance key (slice_get-get_or s.keys u.0.instance no_key inside.instance ∙ ap Some (sym old ∙ same)))
