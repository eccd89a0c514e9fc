-- A cursor is followed from the root: each step keeps 'there is a walk with the rest of the cursor'.
use Rattle.std.proofs.Common.{◌≡◌, ℕ, zero, suc, ◌<◌, ◌≤◌, List, [], ◌∷◌, ◌++◌, Some, length, slice_get, refl, sym, ap, ◌∙◌, subst, arith, append_assoc}
use Rattle.std.proofs.lemmas.Option.{slice_get_within}
use Rattle.ig_forest_tables.specs.Unfold.{noted}
use Rattle.ig_walker.specs.Walks.{Walk, Leads, cursor, Before, Opens, Passed, Least, Next, Last}
use Rattle.ig_walker.specs.Walks as w
use Rattle.ig_walker.specs.States.{IsAlong}
use Rattle.ig_walker.specs.declared.goal.Goal.{Goal}
use Rattle.ig_walker.specs.declared.goal.Visit.{Visit}
use Rattle.ig_walker.proofs.Walking.{steps, same_part, opens_front, ends_at}

pub noted_same : (many i j : ℕ) (cs ds : List ℕ) → i < many → j < many → noted many i ++ cs ≡ noted many j ++ ds → (i ≡ j) × (cs ≡ ds)
noted_same zero i j cs ds p q e = absurd (omega (arith, p))
noted_same (suc zero) i j cs ds p q e = (omega (arith, p, q), e)
noted_same (suc (suc n)) i j cs ds p q e = (cc, cc)

module _ (options : Goal → List (List Goal)) where
  -- what a walk with this cursor takes at the first goal
  pub record Takes (g : Goal) (gs : List Goal) (cs : List ℕ) : Type 0 where
    pub i : ℕ
    pub part : List Goal
    pub rest : List ℕ
    pub has : slice_get (options g) i ≡ Some part
    pub opens : Opens options part
    pub whole : cs ≡ noted (length (options g)) i ++ rest
    pub along : IsAlong options (part ++ gs) rest

  pub takes : (g : Goal) (gs : List Goal) (cs : List ℕ) → IsAlong options (g ∷ gs) cs → Takes g gs cs
  takes g gs cs a =
      let s = steps options g gs a.0 a.1 in
      record {
        i = s.i;
        part = s.part;
        rest = cursor options s.rest;
        has = s.has;
        opens = opens_front options s.part gs s.rest s.walk;
        whole = sym a.2 ∙ ap (cursor options) s.whole;
        along = (s.rest, s.walk, refl);
      }

  -- the same choice, and the rest of the cursor
  pub along_step : (g : Goal) (gs part : List Goal) (i : ℕ) (rest : List ℕ) → slice_get (options g) i ≡ Some part →
      IsAlong options (g ∷ gs) (noted (length (options g)) i ++ rest) → IsAlong options (part ++ gs) rest
  along_step g gs part i rest has a =
      let t = takes g gs _ a in
      let e = noted_same (length (options g)) i t.i rest t.rest (slice_get_within (options g) i part has) (slice_get_within (options g) t.i t.part t.has) t.whole in
      (t.along.0, same_part options g gs part t.part i t.i t.along.0 has t.has (sym e.0) t.along.1, t.along.2 ∙ sym e.1)

  -- a walk from the root with this cursor goes on from the pending goals with its rest
  pub along_back : {gs hs : List Goal} {xs : List Visit} → Leads options gs xs hs → (rest : List ℕ) →
      IsAlong options gs (cursor options xs ++ rest) → IsAlong options hs rest
  along_back (w.stop gs) rest a = a
  along_back (w.go g gs part hs i xs has leads) rest a =
      along_back leads rest (along_step g gs part i (cursor options xs ++ rest) has
      (subst (λ (z : List ℕ). IsAlong options (g ∷ gs) z) (append_assoc (noted (length (options g)) i) (cursor options xs) rest) a))

  -- refused: no walk takes this choice
  pub none_along : (g : Goal) (gs : List Goal) (i end : ℕ) (rest : List ℕ) → i < length (options g) → i < end → Passed options g i end →
      IsAlong options (g ∷ gs) (noted (length (options g)) i ++ rest) → ⊥
  none_along g gs i end rest inside more passed a =
      let t = takes g gs _ a in
      let e = noted_same (length (options g)) i t.i rest t.rest inside (slice_get_within (options g) t.i t.part t.has) t.whole in
      let same = e.0 in
      passed t.i t.part (omega (arith, same)) (omega (arith, same, more)) t.has t.opens

  ended : (many i : ℕ) (rest : List ℕ) → 2 ≤ many → [] ≡ noted many i ++ rest → ⊥
  ended zero i rest more e = absurd (omega (arith, more))
  ended (suc zero) i rest more e = absurd (omega (arith, more))
  ended (suc (suc n)) i rest more e = cc

  -- refused: the cursor ends at a choice, or tells one that is not there
  pub ended_along : (g : Goal) (gs : List Goal) → 2 ≤ length (options g) → IsAlong options (g ∷ gs) [] → ⊥
  ended_along g gs more a = let t = takes g gs [] a in ended (length (options g)) t.i t.rest more t.whole

  told_inside : (many i j : ℕ) (cs rest : List ℕ) → 2 ≤ many → j < many → i ∷ cs ≡ noted many j ++ rest → i < many
  told_inside zero i j cs rest more less e = absurd (omega (arith, more))
  told_inside (suc zero) i j cs rest more less e = absurd (omega (arith, more))
  told_inside (suc (suc n)) i j cs rest more less e = let p : i ≡ j = cc in omega (arith, p, less)

  pub told_along : (g : Goal) (gs : List Goal) (i : ℕ) (cs : List ℕ) → 2 ≤ length (options g) → IsAlong options (g ∷ gs) (i ∷ cs) → i < length (options g)
  told_along g gs i cs more a =
      let t = takes g gs (i ∷ cs) a in told_inside (length (options g)) i t.i cs t.rest more (slice_get_within (options g) t.i t.part t.has) t.whole

  -- at the end nothing of the cursor may be left
  pub left_along : (rest : List ℕ) → IsAlong options [] rest → rest ≡ []
  left_along rest a = sym a.2 ∙ ap (cursor options) (ends_at options a.1 refl)
