-- The laws of walks: order, the least one, the next one, one cursor.
use Rattle.std.proofs.Common.{◌≡◌, ℕ, zero, suc, ◌<◌, ◌≤◌, List, [], ◌∷◌, ◌++◌, Some, length, slice_get, ◌⊎◌, inl, inr, refl, sym, ap, ap₂, ◌∙◌, subst, arith, append_assoc}
use Rattle.std.proofs.lemmas.Bool.{cases_order}
use Rattle.std.proofs.lemmas.Option.{same_Some, slice_get_within}
use Rattle.ig_walker.specs.Walks.{Walk, Leads, cursor, Before, Opens, Passed, Least, Next, Last}
use Rattle.ig_walker.specs.Walks as w
use Rattle.ig_walker.specs.declared.goal.Goal.{Goal}
use Rattle.ig_walker.specs.declared.goal.Visit.{Visit}

module _ (options : Goal → List (List Goal)) where
  abbrev Visits : Type 0
  Visits = List Visit

  abbrev pub at : Goal → ℕ → Visit
  at g i = record { goal = g; choice = i }

  pub record Parted (gs hs : List Goal) (vs : Visits) : Type 0 where
    pub front : Visits
    pub back : Visits
    pub first : Walk options gs front
    pub second : Walk options hs back
    pub whole : vs ≡ front ++ back

  -- a walk through both is a walk through each
  parted_at : {xs : List Goal} {vs : Visits} → Walk options xs vs → (gs hs : List Goal) → xs ≡ gs ++ hs → Parted gs hs vs
  parted_at w.done [] hs e = record { front = []; back = []; first = w.done; second = subst (λ (z : List Goal). Walk options z []) e w.done; whole = refl }
  parted_at w.done (g ∷ gs) hs e = cc
  parted_at (w.step g0 gs0 part i vs at0 walk) [] hs e =
      record { front = []; back = at g0 i ∷ vs; first = w.done; second = subst (λ (z : List Goal). Walk options z (at g0 i ∷ vs)) e (w.step g0 gs0 part i vs at0 walk); whole = refl }
  parted_at (w.step g0 gs0 part i vs at0 walk) (g ∷ gs) hs e =
      let same : g0 ≡ g = cc in
      let rest : gs0 ≡ gs ++ hs = cc in
      let h = parted_at walk (part ++ gs) hs (ap (λ (z : List Goal). part ++ z) rest ∙ sym (append_assoc part gs hs)) in
      record {
        front = at g0 i ∷ h.front;
        back = h.back;
        first = subst (λ (z : Goal). Walk options (z ∷ gs) (at g0 i ∷ h.front)) same (w.step g0 gs part i h.front at0 h.first);
        second = h.second;
        whole = ap (λ (z : Visits). at g0 i ∷ z) h.whole;
      }

  pub parted : (gs hs : List Goal) (vs : Visits) → Walk options (gs ++ hs) vs → Parted gs hs vs
  parted gs hs vs walk = parted_at walk gs hs refl

  pub joined : {gs : List Goal} {vs : Visits} → Walk options gs vs → (hs : List Goal) (ws : Visits) → Walk options hs ws → Walk options (gs ++ hs) (vs ++ ws)
  joined w.done hs ws walk = walk
  joined (w.step g gs part i vs at0 first) hs ws walk =
      w.step g (gs ++ hs) part i (vs ++ ws) at0
      (subst (λ (z : List Goal). Walk options z (vs ++ ws)) (append_assoc part gs hs) (joined first hs ws walk))

  pub opens_front : (gs hs : List Goal) (vs : Visits) → Walk options (gs ++ hs) vs → Opens options gs
  opens_front gs hs vs walk = let h = parted gs hs vs walk in (h.front, h.first)

  -- how a walk through a goal and more begins
  pub record Steps (g : Goal) (gs : List Goal) (vs : Visits) : Type 0 where
    pub part : List Goal
    pub i : ℕ
    pub rest : Visits
    pub has : slice_get (options g) i ≡ Some part
    pub walk : Walk options (part ++ gs) rest
    pub whole : vs ≡ at g i ∷ rest

  steps_at : {xs : List Goal} {vs : Visits} → Walk options xs vs → (g : Goal) (gs : List Goal) → xs ≡ g ∷ gs → Steps g gs vs
  steps_at w.done g gs e = cc
  steps_at (w.step g0 gs0 part i vs at0 walk) g gs e =
      let same : g0 ≡ g = cc in
      let rest : gs0 ≡ gs = cc in
      record {
        part = part;
        i = i;
        rest = vs;
        has = subst (λ (z : Goal). slice_get (options z) i ≡ Some part) same at0;
        walk = subst (λ (z : List Goal). Walk options (part ++ z) vs) rest walk;
        whole = ap (λ (z : Goal). at z i ∷ vs) same;
      }

  pub steps : (g : Goal) (gs : List Goal) (vs : Visits) → Walk options (g ∷ gs) vs → Steps g gs vs
  steps g gs vs walk = steps_at walk g gs refl

  pub ends_at : {xs : List Goal} {vs : Visits} → Walk options xs vs → xs ≡ [] → vs ≡ []
  ends_at w.done e = refl
  ends_at (w.step g0 gs0 part i vs at0 walk) e = cc

  -- Before, inverted
  pub data Differs (g : Goal) (i : ℕ) (vs : Visits) (h : Goal) (j : ℕ) (ws : Visits) : Type 0 where
    now : g ≡ h → i < j → Differs g i vs h j ws
    then : g ≡ h → i ≡ j → Before options vs ws → Differs g i vs h j ws

  differs_at : {xs ys : Visits} → Before options xs ys → (g h : Goal) (i j : ℕ) (vs ws : Visits) → xs ≡ at g i ∷ vs → ys ≡ at h j ∷ ws → Differs g i vs h j ws
  differs_at (w.here k a b xs ys less) g h i j vs ws e f =
      let p : at k a ≡ at g i = cc in
      let q : at k b ≡ at h j = cc in
      now (sym (ap (λ (z : Visit). z.goal) p) ∙ ap (λ (z : Visit). z.goal) q)
      (subst (λ (z : ℕ). z < j) (ap (λ (z : Visit). z.choice) p) (subst (λ (z : ℕ). a < z) (ap (λ (z : Visit). z.choice) q) less))
  differs_at (w.later v xs ys before) g h i j vs ws e f =
      let p : xs ≡ vs = cc in let q : ys ≡ ws = cc in
      let same : at g i ≡ at h j = cc in
      then (ap (λ (z : Visit). z.goal) same) (ap (λ (z : Visit). z.choice) same)
      (subst (λ (z : Visits). Before options z ws) p (subst (λ (z : Visits). Before options xs z) q before))

  pub differs : (g h : Goal) (i j : ℕ) (vs ws : Visits) → Before options (at g i ∷ vs) (at h j ∷ ws) → Differs g i vs h j ws
  differs g h i j vs ws b = differs_at b g h i j vs ws refl refl

  not_before_none : {vs ws : Visits} → Before options vs ws → vs ≡ [] → ⊥
  not_before_none (w.here k a b xs ys less) e = cc
  not_before_none (w.later v xs ys before) e = cc

  pub least_done : Least options [] []
  least_done = record { walk = w.done; least = λ ws walk. inl (ends_at walk refl) }

  pub last_done : Last options [] []
  last_done us walk before = not_before_none before refl

  least_of_from : (g : Goal) (gs part : List Goal) (i n : ℕ) (vs : Visits) → slice_get (options g) i ≡ Some part →
      Passed options g n i → Least options (part ++ gs) vs → (ws : Visits) → (s : Steps g gs ws) → n ≤ s.i →
      (ws ≡ at g i ∷ vs) ⊎ Before options (at g i ∷ vs) ws
  least_of_from g gs part i n vs has passed l ws s from =
      elim (cases_order s.i i) [
        | inl e ↦
            let same : s.part ≡ part = same_Some s.part part (sym s.has ∙ ap (λ (z : ℕ). slice_get (options g) z) e ∙ has) in
            elim (l.least s.rest (subst (λ (z : List Goal). Walk options (z ++ gs) s.rest) same s.walk)) [
              | inl f ↦ inl (s.whole ∙ ap₂ (λ (a : ℕ) (b : Visits). at g a ∷ b) e f)
              | inr b ↦ inr (subst (λ (z : Visits). Before options (at g i ∷ vs) z) (sym (s.whole ∙ ap (λ (a : ℕ). at g a ∷ s.rest) e)) (w.later (at g i) vs s.rest b))
            ]
        | inr o ↦ elim o [
          | inl less ↦ absurd (passed s.i s.part from less s.has (opens_front s.part gs s.rest s.walk))
          | inr more ↦ inr (subst (λ (z : Visits). Before options (at g i ∷ vs) z) (sym s.whole) (w.here g i s.i vs s.rest more))
        ]
      ]

  -- the first option that opens, then the least walk behind it
  pub least_step : (g : Goal) (gs part : List Goal) (i : ℕ) (vs : Visits) → slice_get (options g) i ≡ Some part → Passed options g 0 i →
      Least options (part ++ gs) vs → Least options (g ∷ gs) (at g i ∷ vs)
  least_step g gs part i vs has passed l =
      record { walk = w.step g gs part i vs has l.walk; least = λ ws walk. least_of_from g gs part i 0 vs has passed l ws (steps g gs ws walk) (omega arith) }

  pub same_part : (g : Goal) (gs part other : List Goal) (i j : ℕ) (us : Visits) → slice_get (options g) i ≡ Some part →
      slice_get (options g) j ≡ Some other → j ≡ i → Walk options (other ++ gs) us → Walk options (part ++ gs) us
  same_part g gs part other i j us has as_well e walk =
      subst (λ (z : List Goal). Walk options (z ++ gs) us)
      (same_Some other part (sym as_well ∙ ap (λ (z : ℕ). slice_get (options g) z) e ∙ has)) walk

  next_later_of : (g : Goal) (gs part : List Goal) (i : ℕ) (vs ws : Visits) → slice_get (options g) i ≡ Some part →
      Next options (part ++ gs) vs ws → (us : Visits) → Steps g gs us → Before options (at g i ∷ vs) us →
      (us ≡ at g i ∷ ws) ⊎ Before options (at g i ∷ ws) us
  next_later_of g gs part i vs ws has n us s before =
      elim (differs g g i s.i vs s.rest (subst (λ (z : Visits). Before options (at g i ∷ vs) z) s.whole before)) [
        | now e less ↦ inr (subst (λ (z : Visits). Before options (at g i ∷ ws) z) (sym s.whole) (w.here g i s.i ws s.rest less))
        | then e f b ↦
            elim (n.least s.rest (same_part g gs part s.part i s.i s.rest has s.has (sym f) s.walk) b) [
              | inl r ↦ inl (s.whole ∙ ap₂ (λ (a : ℕ) (z : Visits). at g a ∷ z) (sym f) r)
              | inr r ↦ inr (subst (λ (z : Visits). Before options (at g i ∷ ws) z) (sym (s.whole ∙ ap (λ (a : ℕ). at g a ∷ s.rest) (sym f))) (w.later (at g i) ws s.rest r))
            ]
      ]

  -- the next one is behind the same choice, or at the next option that opens
  pub next_later : (g : Goal) (gs part : List Goal) (i : ℕ) (vs ws : Visits) → slice_get (options g) i ≡ Some part →
      Next options (part ++ gs) vs ws → Next options (g ∷ gs) (at g i ∷ vs) (at g i ∷ ws)
  next_later g gs part i vs ws has n =
      record {
        walk = w.step g gs part i ws has n.walk;
        after = w.later (at g i) vs ws n.after;
        least = λ us walk before. next_later_of g gs part i vs ws has n us (steps g gs us walk) before;
      }

  next_here_of : (g : Goal) (gs part other : List Goal) (i j : ℕ) (vs ws : Visits) → slice_get (options g) i ≡ Some part →
      slice_get (options g) j ≡ Some other → i < j → Passed options g (suc i) j → Last options (part ++ gs) vs →
      Least options (other ++ gs) ws → (us : Visits) → Steps g gs us → Before options (at g i ∷ vs) us →
      (us ≡ at g j ∷ ws) ⊎ Before options (at g j ∷ ws) us
  next_here_of g gs part other i j vs ws has as_well less passed last l us s before =
      elim (differs g g i s.i vs s.rest (subst (λ (z : Visits). Before options (at g i ∷ vs) z) s.whole before)) [
        | now e more ↦
            elim (least_of_from g gs other j (suc i) ws as_well passed l us s (omega (arith, more))) [
              | inl r ↦ inl r
              | inr r ↦ inr r
            ]
        | then e f b ↦ absurd (last s.rest (same_part g gs part s.part i s.i s.rest has s.has (sym f) s.walk) b)
      ]

  pub next_here : (g : Goal) (gs part other : List Goal) (i j : ℕ) (vs ws : Visits) → slice_get (options g) i ≡ Some part →
      slice_get (options g) j ≡ Some other → i < j → Passed options g (suc i) j → Last options (part ++ gs) vs →
      Least options (other ++ gs) ws → Next options (g ∷ gs) (at g i ∷ vs) (at g j ∷ ws)
  next_here g gs part other i j vs ws has as_well less passed last l =
      record {
        walk = w.step g gs other j ws as_well l.walk;
        after = w.here g i j vs ws less;
        least = λ us walk before.
            next_here_of g gs part other i j vs ws has as_well less passed last l us (steps g gs us walk) before;
      }

  -- no option behind opens
  last_back_of : (g : Goal) (gs part : List Goal) (i : ℕ) (vs : Visits) → slice_get (options g) i ≡ Some part →
      Passed options g (suc i) (length (options g)) → Last options (part ++ gs) vs → (us : Visits) → Steps g gs us →
      Before options (at g i ∷ vs) us → ⊥
  last_back_of g gs part i vs has passed last us s before =
      elim (differs g g i s.i vs s.rest (subst (λ (z : Visits). Before options (at g i ∷ vs) z) s.whole before)) [
        | now e more ↦ passed s.i s.part (omega (arith, more)) (slice_get_within (options g) s.i s.part s.has) s.has
            (opens_front s.part gs s.rest s.walk)
        | then e f b ↦ last s.rest (same_part g gs part s.part i s.i s.rest has s.has (sym f) s.walk) b
      ]

  pub last_back : (g : Goal) (gs part : List Goal) (i : ℕ) (vs : Visits) → slice_get (options g) i ≡ Some part →
      Passed options g (suc i) (length (options g)) → Last options (part ++ gs) vs → Last options (g ∷ gs) (at g i ∷ vs)
  last_back g gs part i vs has passed last us walk before =
      last_back_of g gs part i vs has passed last us (steps g gs us walk) before

  -- a state of the walk: what was visited leads from the root to what is pending
  pub next_lifts : {gs hs : List Goal} {xs : Visits} → Leads options gs xs hs → (vs ws : Visits) → Next options hs vs ws →
      Next options gs (xs ++ vs) (xs ++ ws)
  next_lifts (w.stop gs) vs ws n = n
  next_lifts (w.go g gs part hs i xs has leads) vs ws n =
      next_later g gs part i (xs ++ vs) (xs ++ ws) has (next_lifts leads vs ws n)

  pub walk_lifts : {gs hs : List Goal} {xs : Visits} → Leads options gs xs hs → (vs : Visits) → Walk options hs vs →
      Walk options gs (xs ++ vs)
  walk_lifts (w.stop gs) vs walk = walk
  walk_lifts (w.go g gs part hs i xs has leads) vs walk = w.step g gs part i (xs ++ vs) has (walk_lifts leads vs walk)

  pub walked : {gs : List Goal} {xs : Visits} → Walk options gs xs → Leads options gs xs []
  walked w.done = w.stop []
  walked (w.step g gs part i vs has walk) = w.go g gs part [] i vs has (walked walk)

  -- one more visit
  pub visits : {gs hs : List Goal} {xs : Visits} → Leads options gs xs hs → (g : Goal) (rest part : List Goal) (i : ℕ) →
      hs ≡ g ∷ rest → slice_get (options g) i ≡ Some part → Leads options gs (xs ++ at g i ∷ []) (part ++ rest)
  visits (w.stop gs) g rest part i e has =
      subst (λ (z : List Goal). Leads options z (at g i ∷ []) (part ++ rest)) (sym e)
      (w.go g rest part (part ++ rest) i [] has (w.stop (part ++ rest)))
  visits (w.go g0 gs0 part0 hs i0 xs has0 leads) g rest part i e has =
      w.go g0 gs0 part0 (part ++ rest) i0 (xs ++ at g i ∷ []) has0 (visits leads g rest part i e has)

  -- one visit less
  pub record Back (gs : List Goal) (xs : Visits) (g : Goal) (i : ℕ) (hs : List Goal) : Type 0 where
    pub part : List Goal
    pub rest : List Goal
    pub has : slice_get (options g) i ≡ Some part
    pub whole : hs ≡ part ++ rest
    pub leads : Leads options gs xs (g ∷ rest)

  leads_none : {gs hs : List Goal} {ys : Visits} → Leads options gs ys hs → ys ≡ [] → gs ≡ hs
  leads_none (w.stop gs) e = refl
  leads_none (w.go g0 gs0 part0 hs i0 ys has0 leads) e = cc

  back_one : (g0 : Goal) (gs0 part0 hs : List Goal) (i0 : ℕ) (ys : Visits) → slice_get (options g0) i0 ≡ Some part0 →
      Leads options (part0 ++ gs0) ys hs → (g : Goal) (i : ℕ) → at g0 i0 ≡ at g i → ys ≡ [] → Back (g0 ∷ gs0) [] g i hs
  back_one g0 gs0 part0 hs i0 ys has0 leads g i same none =
      let p : g0 ≡ g = ap (λ (z : Visit). z.goal) same in
      let q : i0 ≡ i = ap (λ (z : Visit). z.choice) same in
      record {
        part = part0;
        rest = gs0;
        has = subst (λ (z : Goal). slice_get (options z) i ≡ Some part0) p (subst (λ (z : ℕ). slice_get (options g0) z ≡ Some part0) q has0);
        whole = sym (leads_none leads none);
        leads = subst (λ (z : Goal). Leads options (g0 ∷ gs0) [] (z ∷ gs0)) p (w.stop (g0 ∷ gs0));
      }

  back_at : {gs hs : List Goal} {ys : Visits} → Leads options gs ys hs → (xs : Visits) (g : Goal) (i : ℕ) →
      ys ≡ xs ++ at g i ∷ [] → Back gs xs g i hs
  back_at (w.stop gs) [] g i e = cc
  back_at (w.stop gs) (x ∷ xs) g i e = cc
  back_at (w.go g0 gs0 part0 hs i0 ys has0 leads) [] g i e =
      back_one g0 gs0 part0 hs i0 ys has0 leads g i (cc) (cc)
  back_at (w.go g0 gs0 part0 hs i0 ys has0 leads) (x ∷ xs) g i e =
      let h = back_at leads xs g i (cc) in
      let same : at g0 i0 ≡ x = cc in
      record {
        part = h.part;
        rest = h.rest;
        has = h.has;
        whole = h.whole;
        leads = subst (λ (z : Visit). Leads options (g0 ∷ gs0) (z ∷ xs) (g ∷ h.rest)) same (w.go g0 gs0 part0 (g ∷ h.rest) i0 xs has0 h.leads);
      }

  pub back : {gs hs : List Goal} (xs : Visits) (g : Goal) (i : ℕ) → Leads options gs (xs ++ at g i ∷ []) hs → Back gs xs g i hs
  back xs g i leads = back_at leads xs g i refl
