-- What a walk along all edges knows: the path of open numbers, its groups, and the edges that are left to go.
use Rattle.std.specs.Prelude.{◌≡◌, ◌↔◌, ◌⊎◌, ℕ, suc, ◌+◌, ◌<◌, ◌≤◌, List, [], ◌∷◌, ◌++◌, length, set, slice_get, Contains, Bool, true, Some}
use Rattle.ig_analyse.specs.Facts.{Onward}
use Rattle.ig_analyse.specs.Marks.{is_marked}
use Rattle.ig_analyse.specs.Search.{HasEdge}
use Rattle.ig_analyse.specs.declared.cycles.Group.{Group}
use Rattle.ig_analyse.specs.declared.cycles.Walk.{Walk}
use Rattle.ig_analyse.specs.declared.cycles.Seen.{Seen}
use Rattle.ig_analyse.specs.declared.cycles.Seen.TheVariants.{New, Open, Closed}

-- a group begins between two places of the path
abbrev pub Parted : List Group → ℕ → ℕ → Type 0
Parted groups i j = (g : Group) × Contains groups g × (i < g.first) × (g.first ≤ j)

-- an edge to w that is left comes from the path; of each group either both are inside or none
pub record EdgeFrom (rows : List (List ℕ)) (path : List ℕ) (groups : List Group) (x w : ℕ) : Type 0 where
  pub place : ℕ
  pub number : ℕ
  pub at : slice_get path place ≡ Some number
  pub edge : HasEdge rows number w
  pub side : (g : Group) → Contains groups g → (g.first ≤ place) ↔ (g.edges ≤ x)

-- to where an edge from a group leads: to a closed number, into the path behind where the group begins, by an edge that is
-- left, or to one that is owed
pub data IsNext (seen : List Seen) (path edges owed : List ℕ) (g : Group) (w : ℕ) : Type 0 where
  to_closed : slice_get seen w ≡ Some Closed → IsNext seen path edges owed g w
  to_path : (q : ℕ) → g.first ≤ q → slice_get path q ≡ Some w → IsNext seen path edges owed g w
  is_left : (x : ℕ) → g.edges ≤ x → slice_get edges x ≡ Some w → IsNext seen path edges owed g w
  is_owed : Contains owed w → IsNext seen path edges owed g w

-- each number of the path leads to all behind it, and those of a group to each other; closed numbers are done
pub record IsWalk (rows : List (List ℕ)) (seen : List Seen) (path edges : List ℕ) (groups : List Group) (marks : List Bool)
    (owed : List ℕ) : Type 0 where
  pub seen_long : length seen ≡ length rows
  pub marks_long : length marks ≡ length rows
  -- the path
  pub opened : (q v : ℕ) → slice_get path q ≡ Some v → slice_get seen v ≡ Some (Open q)
  pub placed : (q v : ℕ) → slice_get seen v ≡ Some (Open q) → slice_get path q ≡ Some v
  pub leads : (i j u v : ℕ) → slice_get path i ≡ Some u → slice_get path j ≡ Some v → i < j → Onward (HasEdge rows) u v
  pub joined : (i j u v : ℕ) → slice_get path i ≡ Some u → slice_get path j ≡ Some v → i < j →
      Parted groups i j ⊎ Onward (HasEdge rows) v u
  -- the edges
  pub from : (x w : ℕ) → slice_get edges x ≡ Some w → EdgeFrom rows path groups x w
  pub next : (g : Group) (i u w : ℕ) → Contains groups g → slice_get path i ≡ Some u → g.first ≤ i → HasEdge rows u w →
      IsNext seen path edges owed g w
  -- what is closed
  pub closed : (u w : ℕ) → slice_get seen u ≡ Some Closed → HasEdge rows u w → slice_get seen w ≡ Some Closed
  pub marked : (u : ℕ) → slice_get seen u ≡ Some Closed → (is_marked marks u ≡ true) ↔ Onward (HasEdge rows) u u
  -- the groups
  pub within : (g : Group) → Contains groups g → (g.first < length path) × (g.edges ≤ length edges)
  pub ordered : (k l : ℕ) (g h : Group) → slice_get groups k ≡ Some g → slice_get groups l ≡ Some h → k < l →
      (g.first < h.first) × (g.edges ≤ h.edges)
  pub covered : (q v : ℕ) → slice_get path q ≡ Some v → (g : Group) × Contains groups g × (g.first ≤ q)

-- the numbers of the path are open, and know their places
abbrev pub AreOpen : List ℕ → List Seen → Type 0
AreOpen path seen = (q v : ℕ) → slice_get path q ≡ Some v → slice_get seen v ≡ Some (Open q)

-- the last group
pub record IsTop (groups : List Group) (top : Group) : Type 0 where
  pub before : List Group
  pub parted : groups ≡ before ++ top ∷ []

-- an edge leads to v from the last group
pub record FromTop (rows : List (List ℕ)) (path : List ℕ) (groups : List Group) (v : ℕ) : Type 0 where
  pub top : Group
  pub last : IsTop groups top
  pub place : ℕ
  pub number : ℕ
  pub at : slice_get path place ≡ Some number
  pub inside : top.first ≤ place
  pub edge : HasEdge rows number v

-- groups that begin behind the place were taken from the end
pub data Drops (place : ℕ) (old : List Group) : List Group → Type 0 where
  none : Drops place old old
  more : (now next : List Group) (g : Group) → Drops place old now → now ≡ next ++ g ∷ [] → place < g.first → Drops place old next

-- no group is left, or the last one doesn't begin behind the place
abbrev pub EndsBy : ℕ → List Group → Type 0
EndsBy place groups = (top : Group) → IsTop groups top → top.first ≤ place

-- the path from `first` to `to` was closed, with this mark
pub record Closes (path : List ℕ) (first to : ℕ) (mark : Bool) (seen : List Seen) (marks : List Bool) (seen' : List Seen) (marks' : List Bool) :
    Type 0 where
  pub seen_long : length seen' ≡ length seen
  pub marks_long : length marks' ≡ length marks
  pub members : (q v : ℕ) → slice_get path q ≡ Some v → first ≤ q → q < to →
      (slice_get seen' v ≡ Some Closed) × (is_marked marks' v ≡ mark)
  pub others : (v : ℕ) → ((q : ℕ) → slice_get path q ≡ Some v → first ≤ q → q < to → ⊥) →
      (slice_get seen' v ≡ slice_get seen v) × (is_marked marks' v ≡ is_marked marks v)

-- what is left to see: two turns and its edges for each new number
abbrev pub left_to_see : List (List ℕ) → List Seen → ℕ
left_to_see [] seen = 0
left_to_see (row ∷ rows) [] = 0
left_to_see (row ∷ rows) (New ∷ seen) = suc (suc (length row + left_to_see rows seen))
left_to_see (row ∷ rows) (x ∷ seen) = left_to_see rows seen

-- what is left to do
abbrev pub left_to_do : List (List ℕ) → Walk → ℕ
left_to_do rows walk = left_to_see rows walk.seen.items + (length walk.edges.items + length walk.groups.items)

abbrev pub Walks : List (List ℕ) → Walk → List ℕ → Type 0
Walks rows walk owed = IsWalk rows walk.seen.items walk.path.items walk.edges.items walk.groups.items walk.marks.items owed

-- the number became a group of its own
pub record Enters (rows : List (List ℕ)) (v : ℕ) (old new : Walk) : Type 0 where
  pub own : Group
  pub first : own.first ≡ length old.path.items
  pub begin : own.edges ≡ length old.edges.items
  pub groups : new.groups.items ≡ old.groups.items ++ own ∷ []
  pub row : List ℕ
  pub there : slice_get rows v ≡ Some row
  pub edges : new.edges.items ≡ old.edges.items ++ row
  pub seen : new.seen.items ≡ set old.seen.items v (Open (length old.path.items))
  pub path : new.path.items ≡ old.path.items ++ v ∷ []
  pub marks : new.marks.items ≡ old.marks.items

-- the walk went on: no number is new again, and no more is left to do than this
pub record Goes (rows : List (List ℕ)) (old new : Walk) (most : ℕ) : Type 0 where
  pub walk : Walks rows new []
  pub stays : (v : ℕ) → (slice_get old.seen.items v ≡ Some New → ⊥) → slice_get new.seen.items v ≡ Some New → ⊥
  pub less : left_to_do rows new ≤ most

-- between two walks all groups are closed, and the first numbers aren't new
pub record Rests (rows : List (List ℕ)) (walk : Walk) (to : ℕ) : Type 0 where
  pub walks : Walks rows walk []
  pub closed : walk.groups.items ≡ []
  pub met : (v : ℕ) → v < to → slice_get walk.seen.items v ≡ Some New → ⊥
