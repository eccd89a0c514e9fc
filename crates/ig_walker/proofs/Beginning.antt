-- A walker behind a cursor, as the code holds the cursor.
use Rattle.std.proofs.Common.{◌≡◌, ℕ, List, [], ◌∷◌, Some, subst}
use Rattle.ig_forest_tables.specs.Forest.{Forest}
use Rattle.ig_walker.specs.Listing.{HasTree, HasNoTree}
use Rattle.ig_walker.specs.Options.{options, root_goal}
use Rattle.ig_walker.specs.States.{IsAlong, IsWalkOf, listing_of}
use Rattle.ig_walker.specs.declared.goal.Visit.{Visit}
use Rattle.ig_walker.proofs.Listings.{after_code, tree_code, no_tree_code}

module _ (f : Forest) (d : ℕ) (us cs : List ℕ) (same : us ≡ cs) where
  same_walk : (vs : List Visit) → IsWalkOf (options f) (root_goal f d ∷ []) us vs → IsWalkOf (options f) (root_goal f d ∷ []) cs vs
  same_walk vs h = subst (λ (z : List ℕ). IsWalkOf (options f) (root_goal f d ∷ []) z vs) same h

  pub after_shows : (vs : List Visit) → IsWalkOf (options f) (root_goal f d ∷ []) us vs →
      listing_of f d vs ≡ record { forest = f; depth = d; last = Some cs }
  after_shows vs h = after_code f d vs cs (same_walk vs h)

  pub after_there : (vs : List Visit) → IsWalkOf (options f) (root_goal f d ∷ []) us vs → HasTree f d cs
  after_there vs h = tree_code f d vs cs (same_walk vs h)

  pub after_none : (IsAlong (options f) (root_goal f d ∷ []) us → ⊥) → HasNoTree f d cs
  after_none closed = subst (λ (z : List ℕ). HasNoTree f d z) same (no_tree_code f d us closed)
