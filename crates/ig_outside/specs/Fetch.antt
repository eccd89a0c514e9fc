-- What a fetch may answer.
use Rattle.std.specs.Prelude.{◌≡◌, ℕ, ◌<◌, ◌≤◌, List, length, Result, Ok, Err, Vec}
use Rattle.std.specs.declared.alloc.Global.{Global}
use Rattle.ig_outside.specs.declared.shelf.FetchFault.{FetchFault}
use Rattle.ig_outside.specs.declared.shelf.FetchFault.TheVariants.{Failed, Long, Memory, Missing}
use Rattle.ig_outside.specs.Counts.{Rose}
use Rattle.ig_outside.specs.Told.{Told, silent, nothing, bytes}

-- the answer to a fetch of at most `most` bytes, by what the shelf tells of the name; `Failed` and `Memory` are free
abbrev pub AnswersFetch : Told → ℕ → Result (Vec ℕ Global) FetchFault → Type 0
AnswersFetch silent most (Ok v) = length v.items ≤ most
AnswersFetch nothing most (Ok v) = ⊥
AnswersFetch (bytes xs) most (Ok v) = (v.items ≡ xs) × (length xs ≤ most)
AnswersFetch silent most (Err Long) = Unit {0}
AnswersFetch nothing most (Err Long) = ⊥
AnswersFetch (bytes xs) most (Err Long) = most < length xs
AnswersFetch silent most (Err Missing) = ⊥
AnswersFetch nothing most (Err Missing) = Unit {0}
AnswersFetch (bytes xs) most (Err Missing) = ⊥
AnswersFetch told most (Err Failed) = Unit {0}
AnswersFetch told most (Err Memory) = Unit {0}

-- `Failed` comes only where the count of faults rose; every other answer leaves the count as it was
abbrev pub CausesFetch : ℕ → ℕ → Result (Vec ℕ Global) FetchFault → Type 0
CausesFetch old new (Ok _) = new ≡ old
CausesFetch old new (Err Failed) = Rose old new
CausesFetch old new (Err Long) = new ≡ old
CausesFetch old new (Err Memory) = new ≡ old
CausesFetch old new (Err Missing) = new ≡ old

-- a fetch: the name, how many bytes were asked for at most, and the answer
abbrev pub Given : Type 0
Given = List ℕ × (ℕ × Result (Vec ℕ Global) FetchFault)

-- a shelf that tells this of the names may have given that
abbrev pub Agrees : (List ℕ → Told) → Given → Type 0
Agrees told given = AnswersFetch (told given.0) given.1.0 given.1.1
