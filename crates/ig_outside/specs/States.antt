-- What a shelf and a sink are for their callers.
use Rattle.std.specs.Prelude.{ℕ, List, Option}
use Rattle.ig_outside.specs.Told.{Told}
use Rattle.ig_outside.specs.Fetch.{Given}

-- what a shelf tells of each name, which is given by its bytes, how many faults and fetches there were, and what each fetch gave,
-- in order
pub record ShelfState : Type 0 where
  pub holds : List ℕ → Told
  pub faults : ℕ
  pub fetches : ℕ
  pub given : List Given

-- the bytes that a sink took so far, where it tells them, and how many faults there were
pub record SinkState : Type 0 where
  pub got : Option (List ℕ)
  pub faults : ℕ
