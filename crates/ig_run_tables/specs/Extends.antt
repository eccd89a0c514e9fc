-- Lists that grow at their end.
use Rattle.std.specs.Prelude.{◌≡◌, ◌⊎◌, ℕ, List, [], ◌∷◌, ◌++◌, length, Contains, Some, slice_get}

-- after is before, and then more
pub record Extends {X : Type 0} (before after : List X) : Type 0 where
  pub more : List X
  pub is : after ≡ before ++ more

-- the list is as it was, or has x at its end as well; x is member k
pub record Enters {X : Type 0} (before after : List X) (x : X) (k : ℕ) : Type 0 where
  pub is : (after ≡ before) ⊎ (after ≡ before ++ x ∷ [])
  pub there : slice_get after k ≡ Some x

-- x wasn't in the list, and was added at its end
pub record IsNew {X : Type 0} (before after : List X) (x : X) (k : ℕ) : Type 0 where
  pub new : Contains before x → ⊥
  pub added : after ≡ before ++ x ∷ []
  pub last : k ≡ length before
