-- The table of pops by node and end.
use Rattle.std.specs.Prelude.{◌≡◌, ◌⊎◌, ◌<◌, ℕ, List, [], ◌∷◌, Contains, map}
use Rattle.ig_gss.specs.declared.marks.Pop.{Pop}
use Rattle.ig_gss.specs.declared.places.Place.{Place}
use Rattle.ig_gss.specs.Nodes.{ended}

abbrev pub place : ℕ → ℕ → Place
place node end = record { node = node; end = end }

-- the table has a pop at each end of these
abbrev pub HasAll : ℕ → List Pop → List (Place × ℕ) → Type 0
HasAll node pops ends = (p : Pop) → Contains pops p → Contains (map (λ e. e.0) ends) (place node p.end)

-- it kept what it had, and has more of these pops of the node
pub record GrowsBy (node : ℕ) (pops : List Pop) (old new : List (Place × ℕ)) : Type 0 where
  pub sound : (q : Place) (done : ℕ) → Contains new (q, done) → Contains old (q, done) ⊎ ((q.node ≡ node) × Contains pops (ended q.end done))
  pub kept : (q : Place) → Contains (map (λ e. e.0) old) q → Contains (map (λ e. e.0) new) q

-- how far pops are entered: these are left
pub record IsEntered (node : ℕ) (pops rest : List Pop) (old new : List (Place × ℕ)) : Type 0 where
  pub grows : GrowsBy node pops old new
  pub within : (p : Pop) → Contains rest p → Contains pops p
  pub others : (p : Pop) → Contains pops p → Contains rest p ⊎ Contains (map (λ e. e.0) new) (place node p.end)

-- the latest one comes first here, and ends behind all others
abbrev pub IsHighest : List Pop → Type 0
IsHighest [] = Unit {0}
IsHighest (p ∷ ps) = (q : Pop) → Contains ps q → q.end < p.end
