-- What a shelf tells of a name.
use Rattle.std.specs.Prelude.{ℕ, List}

pub data Told : Type 0 where
  -- the shelf does not tell
  silent : Told
  -- it holds nothing under the name
  nothing : Told
  -- it holds these bytes
  bytes : List ℕ → Told
