-- The main theorem: which trees the printed forest has, and when there is none.
use Rattle.std.specs.Prelude.{◌≡◌, ℕ, ◌≤◌, ◌⊎◌, List, [], All, length, Option, Some}
use Rattle.ig_text.specs.Decoding.{IsDecoded}
use Rattle.ig_text.specs.Tree.{Tree}
use Rattle.ig_outside.specs.States.{ShelfState, SinkState}
use Rattle.ig_outside.specs.Told.{Told, bytes}
use Rattle.ig_text.specs.Input.{Input}
use Rattle.ig_grammar.specs.Tabs.{tab_width}
use Rattle.ig_grammar.specs.declared.grammar.Grammar.{Grammar}
use Rattle.ig_core.specs.Notation.{unchanged}
use Rattle.ig_forest_tables.specs.Forest.{Forest}
use Rattle.ig_grammar.specs.Checked.{CheckedGrammar}
use Rattle.ig_parse.specs.Parses.{IsParsed, IsOver, IsForestOf, HasForest}
use Rattle.ig_command_endings.specs.declared.status.Status.{Status}
use Rattle.ig_command_endings.specs.declared.status.Status.TheVariants as status
use Rattle.ig_load.specs.Summary.{IsLoadSummary, IsTooLarge}
use Rattle.ig_load.specs.Line.{summary_text}
use Rattle.ig_load.specs.declared.summary.Summary.{Summary}
use Rattle.ig_command.specs.Commands.{Request, Source, load, batch, verify, grammar_file, input_file, IsCommand}
use Rattle.ig_command_jobs.specs.Jobs.{Job, print, list, ask, request_for, task_request}
use Rattle.ig_command_jobs.specs.declared.job.Task.{Task}
use Rattle.ig_command_jobs.specs.Listing.{IsBounded, Begins}
use Rattle.ig_command_sources.specs.Accepted.{IsAccepted}
use Rattle.ig_command_endings.specs.Change.{Change, FetchFailed, PutFailed, Got, Untouched}
use Rattle.ig_command_endings.specs.Notes.{budget_note}
use Rattle.ig_command_jobs.specs.Tasks.{GrammarText}
use Rattle.ig_command_jobs.specs.Verifying.{IsReducedText, Verifies, verified_text}
use Rattle.ig_command_sources.specs.Sources.{IsListOf, most_forest_bytes}
use Rattle.ig_command_jobs.specs.Finishes.{Finishes}
use Rattle.ig_command_jobs.specs.Outcome.{Outcome}
use Rattle.ig_turns.specs.Lists.{Job as ListedJob}
use Rattle.ig_tool.specs.Ends.{AllEnd}
use Rattle.ig_tool.specs.Files.{IsHeld}
use Rattle.ig_tool.specs.Text.{End, batch_text}

-- the words are the request, and the shelf tells that it holds its grammar and its input: the first is a text of the
-- grammar in the notation that they name, which is accepted, the second is the input, with the width of tabs that the grammar says
pub record Asks (words : List (List ℕ)) (shelf : ShelfState) (request : Request) (g : Grammar) (input : Input) : Type 0 where
  pub command : IsCommand words request
  pub grammar : Source
  pub names_grammar : grammar_file request ≡ Some grammar
  pub grammar_bytes : List ℕ
  pub holds_grammar : shelf.holds grammar.name ≡ bytes grammar_bytes
  pub accepted : IsAccepted grammar.written grammar_bytes g
  pub input_name : List ℕ
  pub names_input : input_file request ≡ Some input_name
  pub input_bytes : List ℕ
  pub holds_input : shelf.holds input_name ≡ bytes input_bytes
  pub decoded : IsDecoded (tab_width g.tabs) input_bytes input

-- the answer is the outcome; or memory ran out, and out got nothing
abbrev pub Says : Grammar → Input → ℕ → Job → Change SinkState → Change SinkState → Status → Type 0
Says g input budget job out notes answer =
    ((answer ≡ status.NoMemory) × Untouched out) ⊎
    ((text : List ℕ) × ((note : List ℕ) × (Outcome g input budget job answer text note × Got out text × Got notes note)))

-- where the shelf tells both files, the grammar and the input are accepted and nothing failed outside, the answer is the
-- outcome, or memory ran out
abbrev pub Headline : List (List ℕ) → Change ShelfState → Change SinkState → Change SinkState → Status → Type 0
Headline words shelf out notes answer =
    (grammar : Source) (input_name : List ℕ) (g : Grammar) (input : Input) (budget : ℕ) (job : Job) →
    Asks words shelf.before (request_for job grammar input_name budget) g input →
    (FetchFailed shelf → ⊥) → (PutFailed out → ⊥) → (PutFailed notes → ⊥) → Says g input budget job out notes answer

-- a listing is lawful where a depth is given, or the permitted trees have a highest one, and where the word of the cursor, if
-- there is one, is that of a permitted tree of at most that height; all else is
abbrev pub IsLawful : CheckedGrammar → Input → Job → Type 0
IsLawful c input print = Unit {0}
IsLawful c input (list listing) =
    IsBounded c input listing.depth ×
    ((f : Forest) → IsForestOf c input f → (last : Option Tree) × Begins c input f listing.depth listing.after last)
IsLawful c input (ask question) = Unit {0}

-- out got the text that comes of the job by the forest
pub record GotText (g : Grammar) (input : Input) (budget : ℕ) (job : Job) (out notes : Change SinkState) : Type 0 where
  pub forest : Forest
  pub is : HasForest (unchanged g) input budget forest
  pub text : List ℕ
  pub finishes : Finishes (unchanged g) input forest job status.Done text []
  pub got : Got out text
  pub quiet : Got notes []

-- where moreover the budget suffices, a tree is permitted and the job is lawful, the answer is status 0 with the text, or memory
-- ran out
abbrev pub Completeness : List (List ℕ) → Change ShelfState → Change SinkState → Change SinkState → Status → Type 0
Completeness words shelf out notes answer =
    (grammar : Source) (input_name : List ℕ) (g : Grammar) (input : Input) (budget : ℕ) (job : Job) →
    Asks words shelf.before (request_for job grammar input_name budget) g input →
    (FetchFailed shelf → ⊥) → (PutFailed out → ⊥) → (PutFailed notes → ⊥) → (IsOver (unchanged g) input budget → ⊥) →
    IsParsed (unchanged g) input → IsLawful (unchanged g) input job →
    ((answer ≡ status.NoMemory) × Untouched out) ⊎ ((answer ≡ status.Done) × GotText g input budget job out notes)

-- where the words ask for a task with a grammar, the shelf tells that it holds it, it is accepted and nothing failed outside, the
-- answer is status 0 and out got the text of the task, or memory ran out, and out got nothing
abbrev pub GrammarCommands : List (List ℕ) → Change ShelfState → Change SinkState → Change SinkState → Status → Type 0
GrammarCommands words shelf out notes answer =
    (task : Task) (file : Source) (xs : List ℕ) (g : Grammar) → IsCommand words (task_request task file) →
    shelf.before.holds file.name ≡ bytes xs → IsAccepted file.written xs g → (FetchFailed shelf → ⊥) → (PutFailed out → ⊥) →
    (PutFailed notes → ⊥) →
    ((answer ≡ status.NoMemory) × Untouched out) ⊎
    ((answer ≡ status.Done) × ((text : List ℕ) × (GrammarText g file.written task text × Got out text × Untouched notes)))

-- where the words ask that a forest be checked, the shelf tells that it holds the grammar, the input and the text of the forest,
-- the first two are accepted and nothing failed outside, the answer is what comes of the text, or memory ran out, and out got
-- nothing
abbrev pub Verification : List (List ℕ) → Change ShelfState → Change SinkState → Change SinkState → Status → Type 0
Verification words shelf out notes answer =
    (grammar : Source) (input_name name : List ℕ) (g : Grammar) (input : Input) (zs : List ℕ) →
    Asks words shelf.before (verify grammar input_name name) g input → shelf.before.holds name ≡ bytes zs →
    (FetchFailed shelf → ⊥) → (PutFailed out → ⊥) → (PutFailed notes → ⊥) →
    ((answer ≡ status.NoMemory) × Untouched out) ⊎
    ((text : List ℕ) × ((note : List ℕ) × (Verifies (unchanged g) input zs answer text note × Got out text × Got notes note)))

-- where moreover the text is that of the reduced forest of the grammar and the input, and isn't too long, the answer is status 0
-- with the line, or memory ran out
abbrev pub Certification : List (List ℕ) → Change ShelfState → Change SinkState → Change SinkState → Status → Type 0
Certification words shelf out notes answer =
    (grammar : Source) (input_name name : List ℕ) (g : Grammar) (input : Input) (zs : List ℕ) →
    Asks words shelf.before (verify grammar input_name name) g input → shelf.before.holds name ≡ bytes zs →
    (FetchFailed shelf → ⊥) → (PutFailed out → ⊥) → (PutFailed notes → ⊥) → length zs ≤ most_forest_bytes →
    IsReducedText (unchanged g) input zs →
    ((answer ≡ status.NoMemory) × Untouched out) ⊎ ((answer ≡ status.Done) × Got out verified_text × Got notes [])

-- what a load of this size and number puts: the line of its summary, or the note where more items are reachable than the
-- budget allows
pub data LoadOutcome (size number budget : ℕ) : Status → List ℕ → List ℕ → Type 0 where
  too_large : IsTooLarge size number budget → LoadOutcome size number budget status.Budget [] (budget_note budget)
  summed : (summary : Summary) → (IsTooLarge size number budget → ⊥) → IsLoadSummary size number summary →
      LoadOutcome size number budget status.Done (summary_text summary) []

-- where the words ask for a load and nothing failed outside, the answer is its outcome, or memory ran out, and out got nothing
abbrev pub LoadCommands : List (List ℕ) → Change SinkState → Change SinkState → Status → Type 0
LoadCommands words out notes answer =
    (size number budget : ℕ) → IsCommand words (load size number budget) → (PutFailed out → ⊥) → (PutFailed notes → ⊥) →
    ((answer ≡ status.NoMemory) × Untouched out) ⊎
    ((text : List ℕ) × ((note : List ℕ) × (LoadOutcome size number budget answer text note × Got out text × Got notes note)))

-- out got what comes of jobs, one behind the other, each as it would end alone
pub record GotEnds (holds : List ℕ → Told) (budget : ℕ) (jobs : List ListedJob) (out notes : Change SinkState) : Type 0 where
  pub ends : List End
  pub fetches : ℕ
  pub all_end : AllEnd holds budget jobs ends fetches
  pub got : Got out (batch_text 1 ends)
  pub quiet : Untouched notes

-- where the words ask for a batch, the shelf tells that it holds the list, which is that of these jobs, and of each job the
-- grammar and, where that is accepted, the input, and nothing failed outside, the answer is status 0 and out got the ends of all
-- jobs, or memory ran out, and out got nothing
abbrev pub BatchCommands : List (List ℕ) → Change ShelfState → Change SinkState → Change SinkState → Status → Type 0
BatchCommands words shelf out notes answer =
    (list : List ℕ) (budget turn : ℕ) (xs : List ℕ) (jobs : List ListedJob) → IsCommand words (batch list budget turn) →
    shelf.before.holds list ≡ bytes xs → IsListOf xs jobs → All (IsHeld shelf.before.holds) jobs → (FetchFailed shelf → ⊥) →
    (PutFailed out → ⊥) → (PutFailed notes → ⊥) →
    ((answer ≡ status.NoMemory) × Untouched out) ⊎
    ((answer ≡ status.Done) × GotEnds shelf.before.holds budget jobs out notes)
