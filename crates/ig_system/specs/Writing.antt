-- What is written to a stream.
use Rattle.std.specs.Prelude.{ℕ, List, Option}
use Rattle.ig_outside.specs.States.{SinkState}

-- what a sink over a stream is for its callers: it tells what is known of the stream
abbrev pub sink_state : Option (List ℕ) → ℕ → SinkState
sink_state contents faults = record { got = contents; faults = faults }
