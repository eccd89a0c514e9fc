-- What holds while a walk goes on, goes back, or follows a cursor.
use Rattle.std.specs.Prelude.{◌≡◌, ℕ, ◌<◌, ◌≤◌, List, [], ◌∷◌, ◌++◌, Option, Some, None, Bool, true, false, slice_get}
use Rattle.ig_forest_tables.specs.Forest.{Forest}
use Rattle.ig_forest_tables.specs.Unfold.{noted}
use Rattle.ig_walker.specs.Listing.{Listing}
use Rattle.ig_walker.specs.Options.{options, root_goal}
use Rattle.ig_walker.specs.Walks.{Walk, Leads, cursor, Opens, Passed, Least, Last, Next}
use Rattle.ig_walker.specs.declared.goal.Goal.{Goal}
use Rattle.ig_walker.specs.declared.goal.Visit.{Visit}

-- the option of that number is there, and a walk leads through it
pub record LeadsOn (f : Forest) (g : Goal) (i : ℕ) (part : List Goal) : Type 0 where
  pub has : slice_get (options f g) i ≡ Some part
  pub opens : Opens (options f) part

-- it isn't there, or no walk leads through it
abbrev pub LeadsNowhere : Forest → Goal → ℕ → Type 0
LeadsNowhere f g i = (part : List Goal) → slice_get (options f g) i ≡ Some part → Opens (options f) part → ⊥

-- the first option from this one on through which a walk leads
pub record FirstOption (f : Forest) (g : Goal) (from i : ℕ) (part : List Goal) : Type 0 where
  pub from_on : from ≤ i
  pub has : slice_get (options f g) i ≡ Some part
  pub opens : Opens (options f) part
  pub first : Passed (options f) g from i

-- visits and pending goals, of which the least walk through the pending ones makes the least walk through the old ones
pub record Completes (f : Forest) (old : List Goal) (before : List Visit) (now : List Goal) (visits : List Visit) :
    Type 0 where
  pub taken : List Visit
  pub whole : visits ≡ before ++ taken
  pub to : (ws : List Visit) → Least (options f) now ws → Least (options f) old (taken ++ ws)
  pub opens : Opens (options f) now

-- the least walk through the goals was added to the visits
pub record Completed (f : Forest) (old : List Goal) (before visits : List Visit) : Type 0 where
  pub taken : List Visit
  pub whole : visits ≡ before ++ taken
  pub least : Least (options f) old taken

-- going back in a walk: what was taken off it was the last walk through what is pending
pub record Backs (f : Forest) (root : List Goal) (old visits : List Visit) (pending : List Goal) : Type 0 where
  pub rest : List Visit
  pub whole : old ≡ visits ++ rest
  pub leads : Leads (options f) root visits pending
  pub walk : Walk (options f) pending rest
  pub last : Last (options f) pending rest

-- the least walk through what is pending makes the next walk
pub record Found (f : Forest) (root : List Goal) (old visits : List Visit) (pending : List Goal) : Type 0 where
  pub opens : Opens (options f) pending
  pub to : (ws : List Visit) → Least (options f) pending ws → Next (options f) root old (visits ++ ws)

-- going back ended at a later option, or at the root with none
abbrev pub BackTo : (f : Forest) (root : List Goal) (old visits : List Visit) (pending : List Goal) → Bool → Type 0
BackTo f root old visits pending true = Found f root old visits pending
BackTo f root old visits pending false = Last (options f) root old

module _ (f : Forest) (d : ℕ) where
  -- the visits are none, or a walk of the root
  abbrev pub HasWalked : List Visit → Type 0
  HasWalked [] = Unit {0}
  HasWalked (v ∷ vs) = Walk (options f) (root_goal f d ∷ []) (v ∷ vs)

  -- no walk of the root comes behind the visits
  abbrev pub HasNoNext : List Visit → Type 0
  HasNoNext [] = Opens (options f) (root_goal f d ∷ []) → ⊥
  HasNoNext (v ∷ vs) = Last (options f) (root_goal f d ∷ []) (v ∷ vs)

  -- the walk of the root that comes next behind the visits
  abbrev pub IsNextWalk : List Visit → List Visit → Type 0
  IsNextWalk [] ws = Least (options f) (root_goal f d ∷ []) ws
  IsNextWalk (v ∷ vs) ws = Next (options f) (root_goal f d ∷ []) (v ∷ vs) ws

  -- the cursor of the visits, where there are any
  abbrev pub last_cursor : List Visit → Option (List ℕ)
  last_cursor [] = None
  last_cursor (v ∷ vs) = Some (cursor (options f) (v ∷ vs))

  abbrev pub listing_of : List Visit → Listing
  listing_of vs = record { forest = f; depth = d; last = last_cursor vs }

module _ (opts : Goal → List (List Goal)) where
  -- a walk through the goals has that cursor
  abbrev pub IsAlong : List Goal → List ℕ → Type 0
  IsAlong gs cs = (vs : List Visit) × Walk opts gs vs × (cursor opts vs ≡ cs)

  -- the visits are a walk through the goals, with that cursor
  pub record IsWalkOf (gs : List Goal) (cs : List ℕ) (vs : List Visit) : Type 0 where
    pub walk : Walk opts gs vs
    pub told : cursor opts vs ≡ cs

-- the cursor tells that choice among so many, and goes on so
pub record IsTold (many : ℕ) (cs : List ℕ) (i : ℕ) (rest : List ℕ) : Type 0 where
  pub whole : cs ≡ noted many i ++ rest
  pub single : many < 2 → i ≡ 0

-- there is a choice, but the cursor has ended
pub record EndsAtChoice (many : ℕ) (cs : List ℕ) : Type 0 where
  pub choice : 2 ≤ many
  pub ended : cs ≡ []
