-- What a sink may answer to a piece.
use Rattle.std.specs.Prelude.{◌≡◌, ℕ, List, take, Option, Result, Ok, Err}
use Rattle.std.specs.Io.KnownBytes.{Appends}
use Rattle.ig_outside.specs.declared.sink.SinkFault.{SinkFault}
use Rattle.ig_outside.specs.declared.sink.SinkFault.TheVariants.{Failed}
use Rattle.ig_outside.specs.Counts.{Rose}

-- an Ok appends the piece to the bytes that the sink tells, and a failure a prefix of it; where it told none, nothing is said
abbrev pub AnswersPut : Option (List ℕ) → Option (List ℕ) → List ℕ → Result (Unit {0}) SinkFault → Type 0
AnswersPut old new piece (Ok _) = Appends old new piece
AnswersPut old new piece (Err Failed) = (k : ℕ) × Appends old new (take k piece)

-- a failure comes only where the count of faults rose; an Ok leaves the count as it was
abbrev pub CausesPut : ℕ → ℕ → Result (Unit {0}) SinkFault → Type 0
CausesPut old new (Ok _) = new ≡ old
CausesPut old new (Err Failed) = Rose old new
