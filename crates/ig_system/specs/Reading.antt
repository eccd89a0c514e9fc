-- What is read of a file.
use Rattle.std.specs.Prelude.{◌≡◌, ℕ, ◌≤◌, List, ◌++◌, length, Option, Some, None}
use Rattle.std.specs.Io.KnownBytes.{Consumes, IsAtEnd}
use Rattle.ig_outside.specs.Fetch.{Given}
use Rattle.ig_outside.specs.States.{ShelfState}
use Rattle.ig_outside.specs.Told.{Told, silent, bytes}
use Rattle.ig_outside.specs.declared.shelf.FetchFault.{FetchFault}
use Rattle.ig_outside.specs.declared.shelf.FetchFault.TheVariants.{Failed, Long, Memory, Missing}

-- what is told of the bytes that a reader has left
abbrev pub told_by : Option (List ℕ) → Told
told_by None = silent
told_by (Some xs) = bytes xs

-- what a shelf over files is for its callers: its folder knows these bytes
abbrev pub shelf_state : (List ℕ → Option (List ℕ)) → ℕ → ℕ → List Given → ShelfState
shelf_state content faults fetches given =
    record { holds = λ name. told_by (content name); faults = faults; fetches = fetches; given = given }

-- where it is known what a file has, a reader at its begin has that left
abbrev pub Begins : Option (List ℕ) → Option (List ℕ) → Type 0
Begins None left = Unit {0}
Begins (Some xs) left = left ≡ Some xs

-- a reader with the known bytes `before` gave `count` bytes, at most `room`, which came to the end of
-- the content; none only at the end
pub record Piece (before after : Option (List ℕ)) (old new : List ℕ) (room count : ℕ) : Type 0 where
  pub part : List ℕ
  pub appended : new ≡ old ++ part
  pub counted : length part ≡ count
  pub within : count ≤ room
  pub consumed : Consumes before after part
  pub at_end : count ≡ 0 → IsAtEnd after

-- the faults of a read
abbrev pub IsReadFault : FetchFault → Type 0
IsReadFault Failed = Unit {0}
IsReadFault Long = ⊥
IsReadFault Memory = Unit {0}
IsReadFault Missing = ⊥
