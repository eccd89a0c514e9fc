-- Marks of nodes in chains: each with the place + 1 of the one before it, or 0. Here the latest cell comes first.
use Rattle.std.specs.Prelude.{ℕ, suc, ◌≤◌, List, [], ◌∷◌, length, Option, Some, None, if◌then◌else◌, nat_eq}
use Rattle.ig_gss.specs.declared.chains.Cell.{Cell}

abbrev pub cell : {T : Type 0} → T → ℕ → Cell T
cell mark earlier = record { mark = mark; earlier = earlier }

module _ {T : Type 0} where
  -- the marks of the chain that begins at a place + 1
  abbrev pub chain : List (Cell T) → ℕ → List T
  chain [] at = []
  chain (c ∷ cs) at = if nat_eq at (suc (length cs)) then c.mark ∷ chain cs c.earlier else chain cs at

  -- the cell at a place + 1
  abbrev pub found : List (Cell T) → ℕ → Option (Cell T)
  found [] at = None
  found (c ∷ cs) at = if nat_eq at (suc (length cs)) then Some c else found cs at

  -- each names one that came before it, or none
  abbrev pub AreOnward : List (Cell T) → Type 0
  AreOnward [] = Unit {0}
  AreOnward (c ∷ cs) = (c.earlier ≤ length cs) × AreOnward cs
