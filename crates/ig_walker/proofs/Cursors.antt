-- Cursors: the order of walks is that of their cursors, and a cursor has one walk.
use Rattle.std.proofs.Common.{◌≡◌, ℕ, zero, suc, ◌<◌, List, [], ◌∷◌, ◌++◌, length, ◌⊎◌, inl, inr, refl, sym, ap, ap₂, subst, arith}
use Rattle.std.proofs.lemmas.Bool.{cases_order}
use Rattle.std.proofs.lemmas.Option.{slice_get_within}
use Rattle.ig_forest_tables.specs.Unfold.{noted}
use Rattle.ig_forest.specs.Cursors.{Less}
use Rattle.ig_forest.specs.Cursors as order
use Rattle.ig_walker.specs.Walks.{Walk, Leads, cursor, Before, Opens, Passed, Least, Next, Last}
use Rattle.ig_walker.specs.Walks as w
use Rattle.ig_walker.specs.declared.goal.Goal.{Goal}
use Rattle.ig_walker.specs.declared.goal.Visit.{Visit}
use Rattle.ig_walker.proofs.Walking.{at, steps, ends_at, same_part}

pub less_same : {cs ds : List ℕ} → Less cs ds → cs ≡ ds → ⊥
less_same (order.shorter j ds) e = cc
less_same (order.here i j cs ds less) e = let p : i ≡ j = cc in omega (arith, less, p)
less_same (order.later i j cs ds same less) e = less_same less (cc)

pub less_none : {cs ds : List ℕ} → Less cs ds → ds ≡ [] → ⊥
less_none (order.shorter j ds) e = cc
less_none (order.here i j cs ds less) e = cc
less_none (order.later i j cs ds same less) e = cc

less_here : (i j : ℕ) (cs ds : List ℕ) → i < j → (xs ys : List ℕ) → xs ≡ i ∷ cs → ys ≡ j ∷ ds → Less ys xs → ⊥
less_here i j cs ds less _ _ e f (order.shorter k es) = cc
less_here i j cs ds less _ _ e f (order.here a b es fs more) =
    let p : b ≡ i = cc in let q : a ≡ j = cc in omega (arith, less, more, p, q)
less_here i j cs ds less _ _ e f (order.later a b es fs same more) =
    let p : b ≡ i = cc in let q : a ≡ j = cc in omega (arith, less, same, p, q)

less_later : (i j : ℕ) (cs ds : List ℕ) → i ≡ j → (xs ys : List ℕ) → xs ≡ i ∷ cs → ys ≡ j ∷ ds → Less ys xs →
    ((xs ys : List ℕ) → xs ≡ cs → ys ≡ ds → Less ys xs → ⊥) → ⊥
less_later i j cs ds same _ _ e f (order.shorter k es) rest = cc
less_later i j cs ds same _ _ e f (order.here a b es fs more) rest =
    let p : b ≡ i = cc in let q : a ≡ j = cc in omega (arith, same, more, p, q)
less_later i j cs ds same _ _ e f (order.later a b es fs agree more) rest = rest fs es (cc) (cc) more

pub less_turned : {cs ds : List ℕ} → Less cs ds → (xs ys : List ℕ) → xs ≡ cs → ys ≡ ds → Less ys xs → ⊥
less_turned (order.shorter j ds) xs ys e f back = less_none back e
less_turned (order.here i j cs ds less) xs ys e f back = less_here i j cs ds less xs ys e f back
less_turned (order.later i j cs ds same less) xs ys e f back = less_later i j cs ds same xs ys e f back (less_turned less)

module _ (options : Goal → List (List Goal)) where
  abbrev Visits : Type 0
  Visits = List Visit

  -- two walks from the same goals are the same, or one is before the other
  pub ordered : {gs : List Goal} {vs : Visits} → Walk options gs vs → (ws : Visits) → Walk options gs ws →
      (vs ≡ ws) ⊎ (Before options vs ws ⊎ Before options ws vs)
  ordered w.done ws walk = inl (sym (ends_at options walk refl))
  ordered (w.step g gs part i vs has first) ws walk =
      let s = steps options g gs ws walk in
      let back : at options g s.i ∷ s.rest ≡ ws = sym s.whole in
      subst (λ (z : Visits). (at options g i ∷ vs ≡ z) ⊎ (Before options (at options g i ∷ vs) z ⊎ Before options z (at options g i ∷ vs))) back
      (elim (cases_order i s.i) [
        | inl e ↦ elim (ordered first s.rest (same_part options g gs part s.part i s.i s.rest has s.has (sym e) s.walk)) [
          | inl f ↦ inl (ap₂ (λ (a : ℕ) (z : Visits). at options g a ∷ z) e f)
          | inr o ↦ inr (elim o [
            | inl b ↦ inl (subst (λ (a : ℕ). Before options (at options g i ∷ vs) (at options g a ∷ s.rest)) e (w.later (at options g i) vs s.rest b))
            | inr b ↦ inr (subst (λ (a : ℕ). Before options (at options g a ∷ s.rest) (at options g i ∷ vs)) e (w.later (at options g i) s.rest vs b))
          ])
        ]
        | inr o ↦ inr (elim o [
          | inl less ↦ inl (w.here g i s.i vs s.rest less)
          | inr more ↦ inr (w.here g s.i i s.rest vs more)
        ])
      ])

  noted_less : (many i j : ℕ) (cs ds : List ℕ) → i < j → j < many → Less (noted many i ++ cs) (noted many j ++ ds)
  noted_less zero i j cs ds less within = absurd (omega (arith, within))
  noted_less (suc zero) i j cs ds less within = absurd (omega (arith, less, within))
  noted_less (suc (suc n)) i j cs ds less within = order.here i j cs ds less

  noted_later : (many i : ℕ) (cs ds : List ℕ) → Less cs ds → Less (noted many i ++ cs) (noted many i ++ ds)
  noted_later zero i cs ds less = less
  noted_later (suc zero) i cs ds less = less
  noted_later (suc (suc n)) i cs ds less = order.later i i cs ds refl less

  choice_at : {gs : List Goal} {vs : Visits} → Walk options gs vs → (v : Visit) (ws : Visits) → vs ≡ v ∷ ws → v.choice < length (options v.goal)
  choice_at w.done v ws e = cc
  choice_at (w.step g gs part i vs has walk) v ws e =
      let same : at options g i ≡ v = cc in
      subst (λ (z : Visit). z.choice < length (options z.goal)) same (slice_get_within (options g) i part has)

  choice_within : {gs : List Goal} (v : Visit) (ws : Visits) → Walk options gs (v ∷ ws) → v.choice < length (options v.goal)
  choice_within v ws walk = choice_at walk v ws refl

  rest_at : {gs : List Goal} {vs : Visits} → Walk options gs vs → (v : Visit) (ws : Visits) → vs ≡ v ∷ ws → (hs : List Goal) × Walk options hs ws
  rest_at w.done v ws e = cc
  rest_at (w.step g gs part i vs has walk) v ws e =
      (part ++ gs, subst (λ (z : Visits). Walk options (part ++ gs) z) (cc) walk)

  walk_rest : {gs : List Goal} (v : Visit) (ws : Visits) → Walk options gs (v ∷ ws) → (hs : List Goal) × Walk options hs ws
  walk_rest v ws walk = rest_at walk v ws refl

  -- the order of walks is that of cursors
  pub cursor_less : {vs ws : Visits} → Before options vs ws → {gs : List Goal} → Walk options gs ws → Less (cursor options vs) (cursor options ws)
  cursor_less (w.here g i j vs ws less) walk =
      noted_less (length (options g)) i j (cursor options vs) (cursor options ws) less (choice_within (at options g j) ws walk)
  cursor_less (w.later v vs ws before) walk =
      let h = walk_rest v ws walk in
      noted_later (length (options v.goal)) v.choice (cursor options vs) (cursor options ws) (cursor_less before h.1)

  -- a cursor has one walk
  pub one_walk : {gs : List Goal} (vs ws : Visits) → Walk options gs vs → Walk options gs ws → cursor options vs ≡ cursor options ws → vs ≡ ws
  one_walk vs ws first second e =
      elim (ordered first ws second) [
        | inl same ↦ same
        | inr o ↦ elim o [
          | inl b ↦ absurd (less_same (cursor_less b second) e)
          | inr b ↦ absurd (less_same (cursor_less b first) (sym e))
        ]
      ]

  -- and walks are in the order of their cursors
  pub before_of : {gs : List Goal} (vs ws : Visits) → Walk options gs vs → Walk options gs ws → Less (cursor options vs) (cursor options ws) → Before options vs ws
  before_of vs ws first second less =
      elim (ordered first ws second) [
        | inl same ↦ absurd (less_same less (ap (cursor options) same))
        | inr o ↦ elim o [
          | inl b ↦ b
          | inr b ↦ absurd (less_turned less (cursor options vs) (cursor options ws) refl refl (cursor_less b first))
        ]
      ]
