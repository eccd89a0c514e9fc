-- What a call did outside: the states of the shelf and of a sink before it and after it.
use Rattle.std.specs.Prelude.{◌≡◌, ℕ, zero, suc, ◌⊎◌, List, ◌++◌, All, Option, drop, length, take}
use Rattle.ig_outside.specs.Counts.{Rose, risen}
use Rattle.std.specs.Io.KnownBytes.{Appends}
use Rattle.ig_outside.specs.Fetch.{Agrees, Given}
use Rattle.ig_outside.specs.States.{ShelfState, SinkState}
use Rattle.ig_outside.specs.Told.{Told}

pub record Change (S : Type 0) : Type 0 where
  pub before : S
  pub after : S

abbrev pub change : {S : Type 0} → S → S → Change S
change before after = record { before = before; after = after }

-- a count after k more calls
abbrev pub raised : ℕ → ℕ → ℕ
raised zero n = n
raised (suc k) n = raised k (risen n)

-- so many files were fetched
abbrev pub Fetched : Change ShelfState → ℕ → Type 0
Fetched shelf k = shelf.after.fetches ≡ raised k shelf.before.fetches

-- what the fetches of the call gave, in order
abbrev pub given_by : Change ShelfState → List Given
given_by shelf = drop (length shelf.before.given) shelf.after.given

-- a shelf that tells this of the names may have given that
abbrev pub MayTell : (List ℕ → Told) → Change ShelfState → Type 0
MayTell told shelf = All (Agrees told) (given_by shelf)

-- the state, with this in place of what the shelf tells
abbrev pub telling : (List ℕ → Told) → ShelfState → ShelfState
telling told s = record { holds = told; faults = s.faults; fetches = s.fetches; given = s.given }

-- what is said of a call holds by what its fetches gave: whatever the names hold, where that agrees with each fetch
abbrev pub ByFetches : (Change ShelfState → Type 0) → Change ShelfState → Type 0
ByFetches Says shelf =
    (told : List ℕ → Told) → MayTell told shelf → Says (change (telling told shelf.before) (telling told shelf.after))

-- the call only fetched: what was given before is still recorded, the shelf gave what it tells, and it tells the same
pub record OnlyFetches (shelf : Change ShelfState) : Type 0 where
  pub recorded : shelf.after.given ≡ shelf.before.given ++ given_by shelf
  pub as_told : MayTell shelf.before.holds shelf
  pub same : (name : List ℕ) → shelf.after.holds name ≡ shelf.before.holds name

-- no fetch failed
abbrev pub IsCalm : Change ShelfState → Type 0
IsCalm shelf = shelf.after.faults ≡ shelf.before.faults

-- a fetch failed
abbrev pub FetchFailed : Change ShelfState → Type 0
FetchFailed shelf = Rose shelf.before.faults shelf.after.faults

-- a put failed
abbrev pub PutFailed : Change SinkState → Type 0
PutFailed sink = Rose sink.before.faults sink.after.faults

-- a count stayed or rose
abbrev pub Stood : ℕ → ℕ → Type 0
Stood old new = (new ≡ old) ⊎ Rose old new

-- a part of the text that begins where it begins came to the end of what was told
abbrev pub AppendsPart : Option (List ℕ) → Option (List ℕ) → List ℕ → Type 0
AppendsPart old new text = (k : ℕ) × Appends old new (take k text)

-- the sink got all of the text, without a fault
pub record Got (sink : Change SinkState) (text : List ℕ) : Type 0 where
  pub told : Appends sink.before.got sink.after.got text
  pub calm : sink.after.faults ≡ sink.before.faults

-- the sink failed, and got a part of the text
pub record Failed (sink : Change SinkState) (text : List ℕ) : Type 0 where
  pub told : AppendsPart sink.before.got sink.after.got text
  pub rose : PutFailed sink

-- the sink got nothing
pub record Untouched (sink : Change SinkState) : Type 0 where
  pub told : sink.after.got ≡ sink.before.got
  pub calm : sink.after.faults ≡ sink.before.faults

-- the sink got the note, or a part of it and failed
abbrev pub Noted : Change SinkState → List ℕ → Type 0
Noted notes note = Got notes note ⊎ Failed notes note
