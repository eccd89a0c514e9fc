-- What comes of the words of a command, by what is held under the names that they give.
use Rattle.std.specs.Prelude.{◌≡◌, ◌⊎◌, ◌↔◌, ℕ, List, [], ◌∷◌, Contains, Option, Some, None, if◌then◌else◌}
use Rattle.ig_text.specs.Words.{is_word}
use Rattle.ig_outside.specs.States.{SinkState, ShelfState}
use Rattle.ig_outside.specs.Told.{Told, silent, nothing, bytes}
use Rattle.ig_turns.specs.Lists.{Job}
use Rattle.ig_command.specs.Commands.{Request, batch, files_of, IsCommand}
use Rattle.ig_command_endings.specs.Change.{Change, change, FetchFailed, Got, IsCalm, PutFailed, Untouched}
use Rattle.ig_command_endings.specs.declared.status.Status.{Status}
use Rattle.ig_command_endings.specs.declared.status.Status.TheVariants as status
use Rattle.ig_tool.specs.Batch.{GivesJobs}
use Rattle.ig_tool.specs.Outcome.{Decided}

-- a name, with the bytes that are held under it, or that nothing is
pub record Held : Type 0 where
  pub name : List ℕ
  pub content : Option (List ℕ)

abbrev pub told_of : Option (List ℕ) → Told
told_of None = nothing
told_of (Some xs) = bytes xs

-- what a list of these tells of a name: what stands with it first
abbrev pub told_by : List Held → List ℕ → Told
told_by [] name = silent
told_by (one ∷ held) name = if is_word one.name name then told_of one.content else told_by held name

-- a call over a shelf that tells this, in which nothing failed
abbrev pub calmly : (List ℕ → Told) → Change ShelfState
calmly holds =
    change (record { holds = holds; faults = 0; fetches = 0; given = [] })
    (record { holds = holds; faults = 0; fetches = 0; given = [] })

-- the status, the text for out and the line for notes that come of the words, by what the list holds
abbrev pub OutcomeOfWords : List (List ℕ) → List Held → Status → List ℕ → List ℕ → Type 0
OutcomeOfWords words held s out note = (k : ℕ) × Decided words (calmly (told_by held)) s out note k

-- the words give the name
pub data IsNamed (words : List (List ℕ)) (holds : List ℕ → Told) (name : List ℕ) : Type 0 where
  -- as that of a file
  by_words : (request : Request) → IsCommand words request → Contains (files_of request) name → IsNamed words holds name
  -- they ask for a batch, and a line of its list gives it
  by_line : (list : List ℕ) (budget turn : ℕ) (jobs : List Job) (job : Job) → IsCommand words (batch list budget turn) →
      GivesJobs (holds list) jobs → Contains jobs job → (name ≡ job.grammar) ⊎ (name ≡ job.input) → IsNamed words holds name

-- the list tells the same of each name that they give
abbrev pub HoldsNames : List (List ℕ) → (List ℕ → Told) → List Held → Type 0
HoldsNames words holds held = (name : List ℕ) → IsNamed words holds name → told_by held name ≡ holds name

-- where no fetch failed, what is decided rests on what is held under the names that the words give, and on nothing else
abbrev pub OutcomesRestOnNames : Type 0
OutcomesRestOnNames =
    (words : List (List ℕ)) (shelf : Change ShelfState) (held : List Held) (s : Status) (out note : List ℕ) →
    HoldsNames words shelf.before.holds held → IsCalm shelf → (FetchFailed shelf → ⊥) →
    ((k : ℕ) × Decided words shelf s out note k) ↔ OutcomeOfWords words held s out note

-- so where no put failed either, the answer, out's text and notes' line are the outcome of the words; or memory ran out, and out
-- got nothing
abbrev pub AnswersOutcome : List (List ℕ) → Change ShelfState → Change SinkState → Change SinkState → Status → Type 0
AnswersOutcome words shelf out notes answer =
    (held : List Held) → HoldsNames words shelf.before.holds held → (FetchFailed shelf → ⊥) → (PutFailed out → ⊥) →
    (PutFailed notes → ⊥) →
    ((answer ≡ status.NoMemory) × Untouched out) ⊎
    ((text : List ℕ) × ((note : List ℕ) × (OutcomeOfWords words held answer text note × Got out text × Got notes note)))
