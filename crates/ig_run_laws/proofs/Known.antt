-- A known item more.
use Rattle.std.specs.Prelude.{◌≡◌, ◌⊎◌, ℕ, List, Contains, Some, slice_get}
use Rattle.ig_item.specs.Items.{Item}
use Rattle.ig_item.specs.WellKinded.{NoneTwice}

-- an item is known now, and found once, in its place; who else is known was so before
pub record IsKnownToo (known wider : Item → Type 0) (found : List Item) (it : Item) (k : ℕ) : Type 0 where
  pub there : slice_get found k ≡ Some it
  pub once : NoneTwice found
  pub is_known : wider it
  pub new : known it → ⊥
  pub still : (y : Item) → known y → wider y
  pub or : (y : Item) → wider y → known y ⊎ (y ≡ it)
  pub are_found : (y : Item) → known y → Contains found y
