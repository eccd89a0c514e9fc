-- What the clauses of `MemoryShelf` cite.
use Rattle.std.specs.Prelude.{◌≡◌, ◌≢◌, ℕ, Bool, true, List, Option, Some, None, Vec}
use Rattle.std.specs.Ordering.{nat_cmp}
use Rattle.std.specs.BTreeMap.{get_by_text}
use Rattle.std.specs.BTreeSet.{contains}
use Rattle.std.specs.declared.alloc.Global.{Global}
use Rattle.ig_outside.specs.declared.memory_shelf.MemoryShelf.{MemoryShelf}
use Rattle.ig_outside.specs.Fetch.{Given}
use Rattle.ig_outside.specs.States.{ShelfState}
use Rattle.ig_outside.specs.Told.{Told, nothing, bytes}

-- what is told of a name where this is found
abbrev pub told_of : Option (Vec ℕ Global) → Told
told_of None = nothing
told_of (Some v) = bytes v.items

-- what the shelf tells of a name
abbrev pub content_of : MemoryShelf → List ℕ → Told
content_of s name = told_of (get_by_text s.contents name)

-- how many faults there were
abbrev pub faults_of : MemoryShelf → ℕ
faults_of s = s.faults

-- how many fetches there were
abbrev pub fetches_of : MemoryShelf → ℕ
fetches_of s = s.fetches

-- what each fetch gave
abbrev pub given_of : MemoryShelf → List Given
given_of s = s.record.entries

-- what its callers see
abbrev pub state_of : MemoryShelf → ShelfState
state_of s = record { holds = content_of s; faults = faults_of s; fetches = fetches_of s; given = given_of s }

-- whether the fetch of this number was told to fail
abbrev pub fails_at : MemoryShelf → ℕ → Bool
fails_at s call = contains nat_cmp s.failing call

-- the new shelf holds the content under the name, and under every other name what the old one holds
pub record Holds (old new : MemoryShelf) (name content : List ℕ) : Type 0 where
  pub here : content_of new name ≡ bytes content
  pub others : (n : List ℕ) → n ≢ name → content_of new n ≡ content_of old n

-- every name has what it had
abbrev pub SameContent : MemoryShelf → MemoryShelf → Type 0
SameContent old new = (n : List ℕ) → content_of new n ≡ content_of old n

-- both counts and the record are as they were
abbrev pub SameCounts : MemoryShelf → MemoryShelf → Type 0
SameCounts old new =
    (faults_of new ≡ faults_of old) × (fetches_of new ≡ fetches_of old) × (given_of new ≡ given_of old)

-- the calls that were told to fail are as they were
abbrev pub SameFailures : MemoryShelf → MemoryShelf → Type 0
SameFailures old new = (k : ℕ) → fails_at new k ≡ fails_at old k

-- the fetch of this number was told to fail, beside those that were told before
pub record Fails (old new : MemoryShelf) (call : ℕ) : Type 0 where
  pub here : fails_at new call ≡ true
  pub others : (k : ℕ) → k ≢ call → fails_at new k ≡ fails_at old k
