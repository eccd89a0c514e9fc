-- What the clauses of `MemorySink` cite.
use Rattle.std.specs.Prelude.{◌≡◌, ◌≢◌, ℕ, ◌-◌, List, length, min, Option, Some, unwrap_or}
use Rattle.std.specs.Ordering.{nat_cmp}
use Rattle.std.specs.BTreeMap.{get}
use Rattle.ig_outside.specs.declared.memory_sink.MemorySink.{MemorySink}
use Rattle.ig_outside.specs.Counts.{risen}
use Rattle.ig_outside.specs.States.{SinkState}

-- the bytes that the sink took so far
abbrev pub taken_by : MemorySink → List ℕ
taken_by s = s.taken.items

-- how many bytes the sink has room for in all
abbrev pub room_of : MemorySink → ℕ
room_of s = s.room

-- how many bytes it still has room for
abbrev pub room_left : MemorySink → ℕ
room_left s = room_of s - length (taken_by s)

-- how many faults there were
abbrev pub faults_of : MemorySink → ℕ
faults_of s = s.faults

-- how many puts there were
abbrev pub puts_of : MemorySink → ℕ
puts_of s = s.puts

-- what its callers see
abbrev pub state_of : MemorySink → SinkState
state_of s = record { got = Some (taken_by s); faults = faults_of s }

-- how many bytes the put of this number may append before it fails, where it was told to fail
abbrev pub kept_at : MemorySink → ℕ → Option ℕ
kept_at s call = get nat_cmp s.failing call

-- how many bytes the next put may append
abbrev pub limit_of : MemorySink → ℕ
limit_of s = min (unwrap_or (kept_at s (risen (puts_of s))) (room_left s)) (room_left s)

-- the bytes and the room are as they were
abbrev pub SameContent : MemorySink → MemorySink → Type 0
SameContent old new = (taken_by new ≡ taken_by old) × (room_of new ≡ room_of old)

-- both counts are as they were
abbrev pub SameCounts : MemorySink → MemorySink → Type 0
SameCounts old new = (faults_of new ≡ faults_of old) × (puts_of new ≡ puts_of old)

-- the puts that were told to fail are as they were
abbrev pub SameFailures : MemorySink → MemorySink → Type 0
SameFailures old new = (k : ℕ) → kept_at new k ≡ kept_at old k

-- the put of this number was told to fail after `kept` bytes, and every other put is as it was
pub record Fails (old new : MemorySink) (call kept : ℕ) : Type 0 where
  pub here : kept_at new call ≡ Some kept
  pub others : (k : ℕ) → k ≢ call → kept_at new k ≡ kept_at old k
