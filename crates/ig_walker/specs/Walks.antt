-- Walks over goals: each goal has options, and an option is a list of goals that are visited next.
use Rattle.std.specs.Prelude.{◌≡◌, ◌⊎◌, ℕ, ◌<◌, ◌≤◌, List, [], ◌∷◌, ◌++◌, Some, length, slice_get}
use Rattle.ig_forest_tables.specs.Unfold.{noted}
use Rattle.ig_walker.specs.declared.goal.Goal.{Goal}
use Rattle.ig_walker.specs.declared.goal.Visit.{Visit}

module _ (options : Goal → List (List Goal)) where
  -- the visits of a walk through all of these goals, in order
  pub data Walk : List Goal → List Visit → Type 0 where
    done : Walk [] []
    step : (g : Goal) (gs part : List Goal) (i : ℕ) (vs : List Visit) → slice_get (options g) i ≡ Some part →
        Walk (part ++ gs) vs → Walk (g ∷ gs) (record { goal = g; choice = i } ∷ vs)

  -- the visits lead from these goals to those
  pub data Leads : List Goal → List Visit → List Goal → Type 0 where
    stop : (gs : List Goal) → Leads gs [] gs
    go : (g : Goal) (gs part hs : List Goal) (i : ℕ) (vs : List Visit) → slice_get (options g) i ≡ Some part →
        Leads (part ++ gs) vs hs → Leads (g ∷ gs) (record { goal = g; choice = i } ∷ vs) hs

  -- the choices of the visits with two options or more
  abbrev pub cursor : List Visit → List ℕ
  cursor [] = []
  cursor (v ∷ vs) = noted (length (options v.goal)) v.choice ++ cursor vs

  -- the first visit at which they differ has the smaller choice in the former
  pub data Before : List Visit → List Visit → Type 0 where
    here : (g : Goal) (i j : ℕ) (vs ws : List Visit) → i < j →
        Before (record { goal = g; choice = i } ∷ vs) (record { goal = g; choice = j } ∷ ws)
    later : (v : Visit) (vs ws : List Visit) → Before vs ws → Before (v ∷ vs) (v ∷ ws)

  -- some walk leads through the goals
  abbrev pub Opens : List Goal → Type 0
  Opens gs = (vs : List Visit) × Walk gs vs

  -- no walk leads through an option of the goal from the one to before the other
  abbrev pub Passed : Goal → ℕ → ℕ → Type 0
  Passed g n i = (j : ℕ) (part : List Goal) → n ≤ j → j < i → slice_get (options g) j ≡ Some part → Opens part → ⊥

  -- the walk is the least through the goals
  pub record Least (gs : List Goal) (vs : List Visit) : Type 0 where
    pub walk : Walk gs vs
    pub least : (ws : List Visit) → Walk gs ws → (ws ≡ vs) ⊎ Before vs ws

  -- the second walk is the next behind the first one
  pub record Next (gs : List Goal) (vs ws : List Visit) : Type 0 where
    pub walk : Walk gs ws
    pub after : Before vs ws
    pub least : (us : List Visit) → Walk gs us → Before vs us → (us ≡ ws) ⊎ Before ws us

  -- no walk comes behind this one
  abbrev pub Last : List Goal → List Visit → Type 0
  Last gs vs = (us : List Visit) → Walk gs us → Before vs us → ⊥
