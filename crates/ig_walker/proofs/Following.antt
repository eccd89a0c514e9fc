-- Following a cursor from the root.
use Rattle.std.proofs.Common.{◌≡◌, ℕ, zero, suc, ◌<◌, ◌≤◌, List, [], ◌∷◌, ◌++◌, Some, length, slice_get, reverse, drop, refl, sym, ap, ◌∙◌, subst, arith, append_assoc}
use Rattle.std.proofs.lemmas.List.{append-nil}
use Rattle.std.proofs.lemmas.Option.{slice_get_within}
use Rattle.ig_forest_tables.specs.Forest.{Forest}
use Rattle.ig_forest_tables.specs.Unfold.{noted, IsTrim}
use Rattle.ig_walker.specs.Walks.{Walk, Leads, cursor}
use Rattle.ig_walker.specs.Walks as w
use Rattle.ig_walker.specs.Options.{options}
use Rattle.ig_walker.specs.States.{LeadsOn, LeadsNowhere, IsAlong, IsWalkOf, IsTold, EndsAtChoice}
use Rattle.ig_walker.specs.declared.goal.Goal.{Goal}
use Rattle.ig_walker.specs.declared.goal.Visit.{Visit}
use Rattle.ig_walker.proofs.Unfolding.{cursor_join}
use Rattle.ig_walker.proofs.Replaying.{takes, along_back, ended_along, left_along}
use Rattle.ig_walker.proofs.Stacks.{popped}
use Rattle.ig_walker.proofs.Weights.{weight, visit_lower}
use Rattle.ig_walker.proofs.Walking.{visits, walk_lifts}

same_choice : (many i j : ℕ) (cs ds : List ℕ) → i < many → (many < 2 → j ≡ 0) → noted many i ++ cs ≡ noted many j ++ ds → i ≡ j
same_choice zero i j cs ds inside single e = absurd (omega (arith, inside))
same_choice (suc zero) i j cs ds inside single e = let z = single (omega arith) in omega (arith, inside, z)
same_choice (suc (suc n)) i j cs ds inside single e = cc

-- what is left of a cursor, and of the goals, behind the visits
pub record Followed (f : Forest) (root : List Goal) (cs : List ℕ) (vs : List Visit) (rest : List ℕ) (pending : List Goal) :
    Type 0 where
  pub whole : cs ≡ cursor (options f) vs ++ rest
  pub leads : Leads (options f) root vs pending

module _ (f : Forest) (root : List Goal) (cs : List ℕ) where
  abbrev opts : Goal → List (List Goal)
  opts = options f

  pub follow_starts : (vs : List Visit) (rest : List ℕ) (pending : List Goal) → vs ≡ [] → rest ≡ cs → pending ≡ root →
      Followed f root cs vs rest pending
  follow_starts vs rest pending none_yet all is =
      subst (λ (z : List Visit). Followed f root cs z rest pending) (sym none_yet)
      (subst (λ (z : List ℕ). Followed f root cs [] z pending) (sym all)
      (subst (λ (z : List Goal). Followed f root cs [] cs z) (sym is) (record { whole = refl; leads = w.stop root })))

  pub follow_goes : (vs : List Visit) (rest left : List ℕ) (g : Goal) (gs part : List Goal) (i : ℕ) →
      Followed f root cs vs rest (g ∷ gs) → IsTold (length (opts g)) rest i left → LeadsOn f g i part →
      Followed f root cs (vs ++ record { goal = g; choice = i } ∷ []) left (part ++ gs)
  follow_goes vs rest left g gs part i h told on =
      let n = noted (length (opts g)) i in
      record {
        whole =
            h.whole ∙ ap (λ (z : List ℕ). cursor opts vs ++ z) told.whole ∙ sym (append_assoc (cursor opts vs) n left)
            ∙ ap (λ (z : List ℕ). z ++ left)
            (sym (cursor_join f vs (record { goal = g; choice = i } ∷ []) ∙ ap (λ (z : List ℕ). cursor opts vs ++ z) (append-nil n)));
        leads = visits opts h.leads g gs part i refl on.has;
      }

  along : (vs : List Visit) (rest : List ℕ) (pending : List Goal) → Followed f root cs vs rest pending →
      IsAlong opts root cs → IsAlong opts pending rest
  along vs rest pending h a =
      along_back opts h.leads rest (subst (λ (z : List ℕ). IsAlong opts root z) h.whole a)

  pub follow_ends : (vs : List Visit) (rest : List ℕ) (g : Goal) (gs : List Goal) → Followed f root cs vs rest (g ∷ gs) →
      EndsAtChoice (length (opts g)) rest → IsAlong opts root cs → ⊥
  follow_ends vs rest g gs h ended a =
      ended_along opts g gs ended.choice
      (subst (λ (z : List ℕ). IsAlong opts (g ∷ gs) z) ended.ended (along vs rest (g ∷ gs) h a))

  pub follow_fails : (vs : List Visit) (rest left : List ℕ) (g : Goal) (gs : List Goal) (i : ℕ) →
      Followed f root cs vs rest (g ∷ gs) → IsTold (length (opts g)) rest i left → LeadsNowhere f g i →
      IsAlong opts root cs → ⊥
  follow_fails vs rest left g gs i h told nowhere a =
      let t = takes opts g gs rest (along vs rest (g ∷ gs) h a) in
      let same = same_choice (length (opts g)) t.i i t.rest left (slice_get_within (opts g) t.i t.part t.has) told.single (sym t.whole ∙ told.whole) in
      nowhere t.part (subst (λ (z : ℕ). slice_get (opts g) z ≡ Some t.part) same t.has) t.opens

  pub follow_leaves : (vs : List Visit) (rest : List ℕ) → Followed f root cs vs rest [] → IsAlong opts root cs → rest ≡ []
  follow_leaves vs rest h a = left_along opts rest (along vs rest [] h a)

  pub follow_done : (vs : List Visit) (rest : List ℕ) → rest ≡ [] → Followed f root cs vs rest [] → IsWalkOf opts root cs vs
  follow_done vs rest e h =
      record {
        walk = subst (λ (z : List Visit). Walk opts root z) (append-nil vs) (walk_lifts opts h.leads [] w.done);
        told = sym (h.whole ∙ ap (λ (z : List ℕ). cursor opts vs ++ z) e ∙ append-nil (cursor opts vs));
      }

  -- the pending goals as a stack, whose top is at the end
  at_top : (vs : List Visit) (rest : List ℕ) (xs ys : List Goal) (g : Goal) → Followed f root cs vs rest (reverse xs) →
      xs ≡ ys ++ g ∷ [] → Followed f root cs vs rest (g ∷ reverse ys)
  at_top vs rest xs ys g h e = subst (λ (z : List Goal). Followed f root cs vs rest z) (popped xs ys g e) h

  pub follow_goes_code : (vs ws : List Visit) (rest left : List ℕ) (n : ℕ) (g : Goal) (xs ys part new : List Goal) (i : ℕ) →
      Followed f root cs vs rest (reverse xs) → xs ≡ ys ++ g ∷ [] → n ≡ length (opts g) → IsTold n rest i left → LeadsOn f g i part →
      ws ≡ vs ++ record { goal = g; choice = i } ∷ [] → new ≡ part ++ reverse ys → Followed f root cs ws left new
  follow_goes_code vs ws rest left n g xs ys part new i h e many told on visited is =
      subst (λ (z : List Visit). Followed f root cs z left new) (sym visited)
      (subst (λ (z : List Goal). Followed f root cs (vs ++ record { goal = g; choice = i } ∷ []) left z) (sym is)
      (follow_goes vs rest left g (reverse ys) part i (at_top vs rest xs ys g h e)
      (subst (λ (m : ℕ). IsTold m rest i left) many told) on))

  pub follow_ends_code : (vs : List Visit) (rest : List ℕ) (n : ℕ) (g : Goal) (xs ys : List Goal) →
      Followed f root cs vs rest (reverse xs) → xs ≡ ys ++ g ∷ [] → n ≡ length (opts g) → EndsAtChoice n rest →
      IsAlong opts root cs → ⊥
  follow_ends_code vs rest n g xs ys h e many ended =
      follow_ends vs rest g (reverse ys) (at_top vs rest xs ys g h e)
      (subst (λ (m : ℕ). EndsAtChoice m rest) many ended)

  pub follow_fails_code : (vs : List Visit) (rest left : List ℕ) (n : ℕ) (g : Goal) (xs ys : List Goal) (i : ℕ) →
      Followed f root cs vs rest (reverse xs) → xs ≡ ys ++ g ∷ [] → n ≡ length (opts g) → IsTold n rest i left →
      LeadsNowhere f g i → IsAlong opts root cs → ⊥
  follow_fails_code vs rest left n g xs ys i h e many told =
      follow_fails vs rest left g (reverse ys) i (at_top vs rest xs ys g h e)
      (subst (λ (m : ℕ). IsTold m rest i left) many told)

  pub follow_lower_code : IsTrim f → (xs ys new part : List Goal) (g : Goal) (i : ℕ) → xs ≡ ys ++ g ∷ [] → LeadsOn f g i part →
      new ≡ part ++ reverse ys → weight (length f.items) new < weight (length f.items) (reverse xs)
  follow_lower_code good xs ys new part g i e on is =
      subst (λ (z : List Goal). weight (length f.items) new < weight (length f.items) z) (sym (popped xs ys g e))
      (subst (λ (z : List Goal). weight (length f.items) z < weight (length f.items) (g ∷ reverse ys)) (sym is)
      (visit_lower f good g (reverse ys) part i on.has))

  pub follow_left_code : (vs : List Visit) (rest : List ℕ) (xs : List Goal) → Followed f root cs vs rest (reverse xs) → xs ≡ [] →
      (rest ≡ [] → ⊥) → IsAlong opts root cs → ⊥
  follow_left_code vs rest xs h e left a =
      left (follow_leaves vs rest (subst (λ (z : List Goal). Followed f root cs vs rest z) (ap (λ (z : List Goal). reverse z) e) h) a)

  pub follow_done_code : (vs : List Visit) (rest : List ℕ) (xs : List Goal) → Followed f root cs vs rest (reverse xs) → xs ≡ [] →
      rest ≡ [] → IsWalkOf opts root cs vs
  follow_done_code vs rest xs h e none_left =
      follow_done vs rest none_left
      (subst (λ (z : List Goal). Followed f root cs vs rest z) (ap (λ (z : List Goal). reverse z) e) h)

pub drop_some : (cs : List ℕ) (n : ℕ) → n < length cs → drop n cs ≡ [] → ⊥
drop_some [] n less e = absurd (omega (arith, less))
drop_some (c ∷ cs) zero less e = cc
drop_some (c ∷ cs) (suc n) less e = drop_some cs n (omega (arith, less)) e
