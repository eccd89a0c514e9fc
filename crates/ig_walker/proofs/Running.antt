-- The states of the walker: going on to the least walk, and going back to the next option.
use Rattle.std.proofs.Common.{◌≡◌, ℕ, suc, List, [], ◌∷◌, ◌++◌, length, refl, sym, ap, ◌∙◌, subst, arith, append_assoc}
use Rattle.std.proofs.lemmas.List.{append-nil}
use Rattle.ig_forest_tables.specs.Forest.{Forest}
use Rattle.ig_walker.specs.Walks.{Walk, Leads, cursor, Before, Opens, Passed, Least, Next, Last}
use Rattle.ig_walker.specs.Walks as w
use Rattle.ig_walker.specs.Options.{options}
use Rattle.ig_walker.specs.States.{FirstOption, Completes, Backs, Found}
use Rattle.ig_walker.specs.declared.goal.Goal.{Goal}
use Rattle.ig_walker.specs.declared.goal.Visit.{Visit}
use Rattle.ig_walker.proofs.Walking.{parted, joined, least_done, least_step, last_done, last_back, next_here, next_lifts, walked, back, Back}

module _ (f : Forest) where
  abbrev opts : Goal → List (List Goal)
  opts = options f

  pub opens_both : (gs hs : List Goal) → Opens opts gs → Opens opts hs → Opens opts (gs ++ hs)
  opens_both gs hs a b = (a.0 ++ b.0, joined opts a.1 hs b.0 b.1)

  pub opens_back : (g : Goal) (gs : List Goal) → Opens opts (g ∷ gs) → Opens opts gs
  opens_back g gs o = let h = parted opts (g ∷ []) gs o.0 o.1 in (h.back, h.second)

  pub starts : (gs : List Goal) (before : List Visit) → Opens opts gs → Completes f gs before gs before
  starts gs before o = record { taken = []; whole = sym (append-nil before); to = λ ws l. l; opens = o }

  pub goes_on : (old : List Goal) (before : List Visit) (g : Goal) (rest : List Goal) (vs : List Visit) (i : ℕ) (part : List Goal) →
      Completes f old before (g ∷ rest) vs → FirstOption f g 0 i part → Completes f old before (part ++ rest) (vs ++ record { goal = g; choice = i } ∷ [])
  goes_on old before g rest vs i part c o =
      record {
        taken = c.taken ++ record { goal = g; choice = i } ∷ [];
        whole = ap (λ (z : List Visit). z ++ record { goal = g; choice = i } ∷ []) c.whole ∙ append_assoc before c.taken (record { goal = g; choice = i } ∷ []);
        to = λ ws l. subst (λ (z : List Visit). Least opts old z) (sym (append_assoc c.taken (record { goal = g; choice = i } ∷ []) ws))
            (c.to (record { goal = g; choice = i } ∷ ws) (least_step opts g rest part i ws o.has o.first l));
        opens = opens_both part rest o.opens (opens_back g rest c.opens);
      }

  pub completed : (old : List Goal) (before vs : List Visit) → (c : Completes f old before [] vs) → Least opts old c.taken
  completed old before vs c = subst (λ (z : List Visit). Least opts old z) (append-nil c.taken) (c.to [] (least_done opts))

  pub at_end : (root : List Goal) (old : List Visit) → Walk opts root old → Backs f root old old []
  at_end root old walk = record { rest = []; whole = sym (append-nil old); leads = walked opts walk; walk = w.done; last = last_done opts }

  -- what was pending below the last visit
  pub below : (root : List Goal) (old vs : List Visit) (g : Goal) (i : ℕ) (pending : List Goal) →
      Backs f root old (vs ++ record { goal = g; choice = i } ∷ []) pending → Back opts root vs g i pending
  below root old vs g i pending b = back opts vs g i b.leads

  pub goes_back : (root : List Goal) (old vs : List Visit) (g : Goal) (i : ℕ) (pending : List Goal) →
      Backs f root old (vs ++ record { goal = g; choice = i } ∷ []) pending → (h : Back opts root vs g i pending) →
      Passed opts g (suc i) (length (opts g)) → Backs f root old vs (g ∷ h.rest)
  goes_back root old vs g i pending b h passed =
      record {
        rest = record { goal = g; choice = i } ∷ b.rest;
        whole = b.whole ∙ append_assoc vs (record { goal = g; choice = i } ∷ []) b.rest;
        leads = h.leads;
        walk = w.step g h.rest h.part i b.rest h.has (subst (λ (z : List Goal). Walk opts z b.rest) h.whole b.walk);
        last = last_back opts g h.rest h.part i b.rest h.has passed (subst (λ (z : List Goal). Last opts z b.rest) h.whole b.last);
      }

  pub finds : (root : List Goal) (old vs : List Visit) (g : Goal) (i j : ℕ) (pending part : List Goal) →
      Backs f root old (vs ++ record { goal = g; choice = i } ∷ []) pending → (h : Back opts root vs g i pending) →
      FirstOption f g (suc i) j part → Found f root old (vs ++ record { goal = g; choice = j } ∷ []) (part ++ h.rest)
  finds root old vs g i j pending part b h o =
      record {
        opens = (let p = parted opts h.part h.rest b.rest (subst (λ (z : List Goal). Walk opts z b.rest) h.whole b.walk) in opens_both part h.rest o.opens (p.back, p.second));
        to = λ ws l.
            subst (λ (z : List Visit). Next opts root z ((vs ++ record { goal = g; choice = j } ∷ []) ++ ws))
            (sym (b.whole ∙ append_assoc vs (record { goal = g; choice = i } ∷ []) b.rest))
            (subst (λ (z : List Visit). Next opts root (vs ++ record { goal = g; choice = i } ∷ b.rest) z) (sym (append_assoc vs (record { goal = g; choice = j } ∷ []) ws))
            (next_lifts opts h.leads (record { goal = g; choice = i } ∷ b.rest) (record { goal = g; choice = j } ∷ ws)
            (next_here opts g h.rest h.part part i j b.rest ws h.has o.has (omega (arith, o.from_on)) o.first
            (subst (λ (z : List Goal). Last opts z b.rest) h.whole b.last) l)));
      }

  from_none : {gs hs : List Goal} {vs : List Visit} → Leads opts gs vs hs → vs ≡ [] → gs ≡ hs
  from_none (w.stop gs) e = refl
  from_none (w.go g gs part hs i vs has leads) e = cc

  pub exhausted : (root : List Goal) (old : List Visit) (pending : List Goal) → Backs f root old [] pending → Last opts root old
  exhausted root old pending b =
      subst (λ (z : List Visit). Last opts root z) (sym b.whole) (subst (λ (z : List Goal). Last opts z b.rest) (sym (from_none b.leads refl)) b.last)
