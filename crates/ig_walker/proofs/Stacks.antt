-- The states of the walker over vectors, whose last element is the top.
use Rattle.std.proofs.Common.{◌≡◌, ℕ, suc, ◌<◌, List, [], ◌∷◌, ◌++◌, Some, length, slice_get, sym, ap, ◌∙◌, subst, arith, Bool, true, false, reverse}
use Rattle.std.proofs.lemmas.List.{reverse-append}
use Rattle.std.proofs.lemmas.Option.{slice_get_within}
use Rattle.ig_forest_tables.specs.Forest.{Forest}
use Rattle.ig_forest_tables.specs.Unfold.{IsTrim}
use Rattle.ig_walker.specs.Walks.{Opens, Passed, Next, Last}
use Rattle.ig_walker.specs.Options.{options}
use Rattle.ig_walker.specs.States.{FirstOption, Completes, Completed, Backs, Found, BackTo}
use Rattle.ig_walker.specs.declared.goal.Goal.{Goal}
use Rattle.ig_walker.specs.declared.goal.Visit.{Visit}
use Rattle.ig_walker.proofs.Running.{goes_on, completed, below, goes_back, finds, exhausted}
use Rattle.ig_walker.proofs.Weights.{weight, visit_lower}
use Rattle.ig_walker.proofs.Walking.{Back, steps, opens_front}

pub popped : {X : Type 0} (xs ys : List X) (g : X) → xs ≡ ys ++ g ∷ [] → reverse xs ≡ g ∷ reverse ys
popped xs ys g e = ap (λ (z : List _). reverse z) e ∙ reverse-append ys (g ∷ [])

module _ (f : Forest) where
  abbrev opts : Goal → List (List Goal)
  opts = options f

  pub goes_on_code : (old : List Goal) (before : List Visit) (xs ys new part : List Goal) (g : Goal) (i : ℕ) (vs ws : List Visit) →
      Completes f old before (reverse xs) vs → xs ≡ ys ++ g ∷ [] → FirstOption f g 0 i part → new ≡ part ++ reverse ys →
      ws ≡ vs ++ record { goal = g; choice = i } ∷ [] → Completes f old before new ws
  goes_on_code old before xs ys new part g i vs ws c e o is visited =
      subst (λ (z : List Goal). Completes f old before z ws) (sym is)
      (subst (λ (z : List Visit). Completes f old before (part ++ reverse ys) z) (sym visited)
      (goes_on f old before g (reverse ys) vs i part (subst (λ (z : List Goal). Completes f old before z vs) (popped xs ys g e) c) o))

  pub lower_code : (good : IsTrim f) (xs ys new part : List Goal) (g : Goal) (i : ℕ) → xs ≡ ys ++ g ∷ [] → FirstOption f g 0 i part →
      new ≡ part ++ reverse ys → weight (length f.items) new < weight (length f.items) (reverse xs)
  lower_code good xs ys new part g i e o is =
      subst (λ (z : List Goal). weight (length f.items) new < weight (length f.items) z) (sym (popped xs ys g e))
      (subst (λ (z : List Goal). weight (length f.items) z < weight (length f.items) (g ∷ reverse ys)) (sym is)
      (visit_lower f good g (reverse ys) part i o.has))

  pub never_code : (old : List Goal) (before : List Visit) (xs ys : List Goal) (g : Goal) (vs : List Visit) →
      Completes f old before (reverse xs) vs → xs ≡ ys ++ g ∷ [] → Passed opts g 0 (length (opts g)) → ⊥
  never_code old before xs ys g vs c e passed =
      let o = subst (λ (z : List Goal). Opens opts z) (popped xs ys g e) c.opens in
      let s = steps opts g (reverse ys) o.0 o.1 in
      passed s.i s.part (omega arith) (slice_get_within (opts g) s.i s.part s.has) s.has (opens_front opts s.part (reverse ys) s.rest s.walk)

  pub completed_code : (old : List Goal) (before : List Visit) (xs : List Goal) (vs : List Visit) →
      Completes f old before (reverse xs) vs → xs ≡ [] → Completed f old before vs
  completed_code old before xs vs c e =
      let d = subst (λ (z : List Goal). Completes f old before z vs) (ap (λ (z : List Goal). reverse z) e) c in
      record { taken = d.taken; whole = d.whole; least = completed f old before vs d }

  -- going back: the last visit and its goals are taken off again

  pub back_code : (root : List Goal) (old vs us : List Visit) (g : Goal) (i : ℕ) (pending : List Goal) →
      Backs f root old us pending → us ≡ vs ++ record { goal = g; choice = i } ∷ [] →
      (b : Backs f root old (vs ++ record { goal = g; choice = i } ∷ []) pending) × Back opts root vs g i pending
  back_code root old vs us g i pending b e =
      let c = subst (λ (z : List Visit). Backs f root old z pending) e b in (c, below f root old vs g i pending c)

  -- the goals behind an option were taken off the stack
  abbrev pub Undone : Goal → ℕ → List Goal → List Goal → Type 0
  Undone g i xs ys =
      (part rest : List Goal) → slice_get (opts g) i ≡ Some part → reverse xs ≡ part ++ rest → reverse ys ≡ rest

  pub left_code : (root : List Goal) (old vs us : List Visit) (g : Goal) (i : ℕ) (xs ys : List Goal) →
      (b : Backs f root old us (reverse xs)) → (e : us ≡ vs ++ record { goal = g; choice = i } ∷ []) → Undone g i xs ys →
      reverse ys ≡ (back_code root old vs us g i (reverse xs) b e).1.rest
  left_code root old vs us g i xs ys b e drops =
      let h = back_code root old vs us g i (reverse xs) b e in
      drops h.1.part h.1.rest h.1.has h.1.whole

  pub goes_back_code : (root : List Goal) (old vs us : List Visit) (g : Goal) (i : ℕ) (xs ys zs : List Goal) →
      Backs f root old us (reverse xs) → us ≡ vs ++ record { goal = g; choice = i } ∷ [] →
      Undone g i xs ys →
      zs ≡ ys ++ g ∷ [] → Passed opts g (suc i) (length (opts g)) → Backs f root old vs (reverse zs)
  goes_back_code root old vs us g i xs ys zs b e drops pushed passed =
      let h = back_code root old vs us g i (reverse xs) b e in
      let same : g ∷ h.1.rest ≡ reverse zs =
      ap (λ (z : List Goal). g ∷ z) (sym (left_code root old vs us g i xs ys b e drops)) ∙ sym (popped zs ys g pushed) in
      subst (λ (z : List Goal). Backs f root old vs z) same (goes_back f root old vs g i (reverse xs) h.0 h.1 passed)

  pub found_code : (root : List Goal) (old vs us ws : List Visit) (g : Goal) (i j : ℕ) (xs ys zs part : List Goal) →
      Backs f root old us (reverse xs) → us ≡ vs ++ record { goal = g; choice = i } ∷ [] →
      Undone g i xs ys →
      FirstOption f g (suc i) j part → ws ≡ vs ++ record { goal = g; choice = j } ∷ [] → reverse zs ≡ part ++ reverse ys →
      Found f root old ws (reverse zs)
  found_code root old vs us ws g i j xs ys zs part b e drops o visited is =
      let h = back_code root old vs us g i (reverse xs) b e in
      subst (λ (z : List Visit). Found f root old z (reverse zs)) (sym visited)
      (subst (λ (z : List Goal). Found f root old (vs ++ record { goal = g; choice = j } ∷ []) z)
      (ap (λ (z : List Goal). part ++ z) (sym (left_code root old vs us g i xs ys b e drops)) ∙ sym is)
      (finds f root old vs g i j (reverse xs) part h.0 h.1 o))

  pub exhausted_code : (root : List Goal) (old us : List Visit) (pending : List Goal) → Backs f root old us pending → us ≡ [] → Last opts root old
  exhausted_code root old us pending b e = exhausted f root old pending (subst (λ (z : List Visit). Backs f root old z pending) e b)

  pub last_code : (root : List Goal) (old copy us : List Visit) (pending : List Goal) (found : Bool) → copy ≡ old → found ≡ false →
      BackTo f root copy us pending found → Last opts root old
  last_code root old copy us pending found e z b =
      subst (λ (v : List Visit). Last opts root v) e (subst (λ (x : Bool). BackTo f root copy us pending x) z b)

  pub next_code : (root : List Goal) (old copy us vs : List Visit) (pending : List Goal) (found : Bool) → copy ≡ old → found ≡ true →
      BackTo f root copy us pending found → Completed f pending us vs → Next opts root old vs
  next_code root old copy us vs pending found e z b c =
      let h = subst (λ (x : Bool). BackTo f root copy us pending x) z b in
      subst (λ (v : List Visit). Next opts root v vs) e
      (subst (λ (v : List Visit). Next opts root copy v) (sym c.whole) (h.to c.taken c.least))
