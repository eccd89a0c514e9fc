-- What the top call answers, by cases.
use Rattle.std.specs.Prelude.{◌≡◌, ◌≢◌, ◌≤◌, ℕ, ◌+◌, zero, List, [], length, Some}
use Rattle.ig_text.specs.Input.{Input}
use Rattle.ig_text.specs.Decoding.{IsDecoded, IsFaulty}
use Rattle.ig_text.specs.declared.text.TextFault.{TextFault}
use Rattle.ig_text.specs.declared.text.TextFault.TheVariants as text_fault
use Rattle.ig_outside.specs.Told.{nothing}
use Rattle.ig_outside.specs.States.{ShelfState, SinkState}
use Rattle.ig_grammar.specs.Tabs.{tab_width}
use Rattle.ig_grammar.specs.declared.grammar.Grammar.{Grammar}
use Rattle.ig_core.specs.Notation.{unchanged}
use Rattle.ig_forest_tables.specs.Forest.{Forest}
use Rattle.ig_parse.specs.Parses.{IsUnparsed, IsOver, HasForest}
use Rattle.ig_load.specs.Summary.{IsLoadSummary, IsTooLarge}
use Rattle.ig_load.specs.Line.{summary_text}
use Rattle.ig_load.specs.declared.summary.Summary.{Summary}
use Rattle.ig_command.specs.Commands.{Request, Source, load, batch, verify, grammar_file, input_file, files_of, IsCommand}
use Rattle.ig_command_endings.specs.Change.{Change, Fetched, IsCalm, FetchFailed, Stood, Got, Failed, Untouched, Noted}
use Rattle.ig_command_endings.specs.Notes.{budget_note, cannot_read_note, cannot_write_note, grammar_note, input_note, no_memory_note, usage_note}
use Rattle.ig_command_endings.specs.declared.status.Status.{Status}
use Rattle.ig_command_endings.specs.declared.status.Status.TheVariants as status
use Rattle.ig_command_sources.specs.Accepted.{IsAccepted}
use Rattle.ig_command_sources.specs.Refusals.{IsRefused}
use Rattle.ig_command_sources.specs.Sources.{IsBadList, MayGive}
use Rattle.ig_command_jobs.specs.Jobs.{Job, request_for, task_request}
use Rattle.ig_command_jobs.specs.declared.job.Task.{Task}
use Rattle.ig_command_jobs.specs.Tasks.{GrammarText}
use Rattle.ig_command_jobs.specs.Verifying.{Verifies, PassesReduced}
use Rattle.ig_command_jobs.specs.Finishes.{IsNoParseNote, Finishes}
use Rattle.ig_turns.specs.Lists.{Job as ListedJob}
use Rattle.ig_tool.specs.Batch.{GivesJobs, IsAny, IsMissing, MayFetchBatch}
use Rattle.ig_tool.specs.Ends.{AllEnd}
use Rattle.ig_tool.specs.Files.{StopsAtFile}
use Rattle.ig_tool.specs.Text.{End, batch_text}

-- the file of the request's grammar may give it in its notation, and it is accepted
pub record HasGrammar (shelf : ShelfState) (request : Request) (g : Grammar) : Type 0 where
  pub file : Source
  pub named : grammar_file request ≡ Some file
  pub bytes : List ℕ
  pub gives : MayGive (shelf.holds file.name) bytes
  pub accepted : IsAccepted file.written bytes g

-- the file of the request's input may give it, with the width of tabs that the grammar says
pub record HasInput (shelf : ShelfState) (request : Request) (g : Grammar) (input : Input) : Type 0 where
  pub name : List ℕ
  pub named : input_file request ≡ Some name
  pub bytes : List ℕ
  pub gives : MayGive (shelf.holds name) bytes
  pub decoded : IsDecoded (tab_width g.tabs) bytes input

-- the words are the request, whose files may give the grammar, which is accepted, and the input
pub record HasFiles (words : List (List ℕ)) (shelf : ShelfState) (request : Request) (g : Grammar) (input : Input) : Type 0 where
  pub command : IsCommand words request
  pub of_grammar : HasGrammar shelf request g
  pub of_input : HasInput shelf request g input

-- the words ask for a batch, and the file of its list may give the text of these jobs
pub record HasJobs (words : List (List ℕ)) (shelf : ShelfState) (list : List ℕ) (budget turn : ℕ) (jobs : List ListedJob) : Type 0 where
  pub command : IsCommand words (batch list budget turn)
  pub gives : GivesJobs (shelf.holds list) jobs

-- the status that is decided before anything is written, the text for out, the line for notes, and
-- the number of fetches
pub data Decided (words : List (List ℕ)) (shelf : Change ShelfState) : Status → List ℕ → List ℕ → ℕ → Type 0 where
  -- the words are no command
  usage : IsCalm shelf → ((request : Request) → IsCommand words request → ⊥) →
      Decided words shelf status.Usage [] usage_note 0
  -- more items of a load than the budget are reachable
  load_over_budget : (size number budget : ℕ) → IsCalm shelf → IsCommand words (load size number budget) →
      IsTooLarge size number budget → Decided words shelf status.Budget [] (budget_note budget) 0
  -- the budget suffices for a load, and the text is that of its summary
  load_summed : (size number budget : ℕ) (summary : Summary) → IsCalm shelf → IsCommand words (load size number budget) →
      (IsTooLarge size number budget → ⊥) → IsLoadSummary size number summary →
      Decided words shelf status.Done (summary_text summary) [] 0
  -- nothing is held under the grammar's name
  grammar_missing : (request : Request) (file : Source) → IsCalm shelf → IsCommand words request →
      grammar_file request ≡ Some file → shelf.before.holds file.name ≡ nothing →
      Decided words shelf status.ReadFault [] (cannot_read_note file.name) 1
  -- the fetch of the grammar failed
  grammar_unread : (request : Request) (file : Source) → FetchFailed shelf → IsCommand words request →
      grammar_file request ≡ Some file → Decided words shelf status.ReadFault [] (cannot_read_note file.name) 1
  -- the grammar's bytes are refused
  grammar_refused : (request : Request) (file : Source) (xs text : List ℕ) → IsCalm shelf → IsCommand words request →
      grammar_file request ≡ Some file → MayGive (shelf.before.holds file.name) xs → IsRefused file.written xs text →
      Decided words shelf status.Grammar [] (grammar_note text) 1
  -- the grammar is accepted, and the text is what was asked of it
  told_grammar : (task : Task) (file : Source) (text : List ℕ) (g : Grammar) → IsCalm shelf → IsCommand words (task_request task file) →
      HasGrammar shelf.before (task_request task file) g → GrammarText g file.written task text →
      Decided words shelf status.Done text [] 1
  -- the grammar is accepted, and nothing is held under the input's name
  input_missing : (request : Request) (g : Grammar) (file : List ℕ) → IsCalm shelf → IsCommand words request →
      HasGrammar shelf.before request g → input_file request ≡ Some file → shelf.before.holds file ≡ nothing →
      Decided words shelf status.ReadFault [] (cannot_read_note file) 2
  -- the grammar is accepted, and the fetch of the input failed
  input_unread : (request : Request) (g : Grammar) (file : List ℕ) → FetchFailed shelf → IsCommand words request →
      HasGrammar shelf.before request g → input_file request ≡ Some file →
      Decided words shelf status.ReadFault [] (cannot_read_note file) 2
  -- the grammar is accepted, and the input's bytes are no text
  input_refused : (request : Request) (g : Grammar) (file ys : List ℕ) (fault : TextFault) → IsCalm shelf →
      IsCommand words request → HasGrammar shelf.before request g → input_file request ≡ Some file →
      MayGive (shelf.before.holds file) ys → IsFaulty ys fault → fault ≢ text_fault.Memory →
      Decided words shelf status.Input [] (input_note fault) 2
  -- more items than the budget are reachable
  over_budget : (grammar : Source) (input_name : List ℕ) (g : Grammar) (input : Input) (budget : ℕ) (job : Job) → IsCalm shelf →
      HasFiles words shelf.before (request_for job grammar input_name budget) g input →
      IsOver (unchanged g) input budget → Decided words shelf status.Budget [] (budget_note budget) 2
  -- the budget suffices, and no tree is permitted
  no_parse : (grammar : Source) (input_name : List ℕ) (g : Grammar) (input : Input) (budget : ℕ) (job : Job) (note : List ℕ) →
      IsCalm shelf → HasFiles words shelf.before (request_for job grammar input_name budget) g input →
      (IsOver (unchanged g) input budget → ⊥) → IsUnparsed (unchanged g) input → IsNoParseNote (unchanged g) input note →
      Decided words shelf status.NoParse [] note 2
  -- the budget suffices, a tree is permitted, and the forest says what comes of the job
  parsed : (grammar : Source) (input_name : List ℕ) (g : Grammar) (input : Input) (budget : ℕ) (job : Job) (f : Forest) (s : Status)
      (out note : List ℕ) → IsCalm shelf → HasFiles words shelf.before (request_for job grammar input_name budget) g input →
      HasForest (unchanged g) input budget f → Finishes (unchanged g) input f job s out note → Decided words shelf s out note 2
  -- a forest is to be checked, and nothing is held under the name of its text
  forest_missing : (grammar : Source) (input_name file : List ℕ) (g : Grammar) (input : Input) → IsCalm shelf →
      HasFiles words shelf.before (verify grammar input_name file) g input → shelf.before.holds file ≡ nothing →
      Decided words shelf status.ReadFault [] (cannot_read_note file) 3
  -- the fetch of its text failed
  forest_unread : (grammar : Source) (input_name file : List ℕ) (g : Grammar) (input : Input) → FetchFailed shelf →
      HasFiles words shelf.before (verify grammar input_name file) g input →
      Decided words shelf status.ReadFault [] (cannot_read_note file) 3
  -- the forest was checked; the reduced one passes
  checked : (grammar : Source) (input_name file : List ℕ) (g : Grammar) (input : Input) (zs : List ℕ) (s : Status) (out note : List ℕ) →
      IsCalm shelf → HasFiles words shelf.before (verify grammar input_name file) g input →
      MayGive (shelf.before.holds file) zs → Verifies (unchanged g) input zs s out note → PassesReduced (unchanged g) input zs s →
      Decided words shelf s out note 3
  -- a batch is asked for, and nothing is held under the name of its list
  list_missing : (list : List ℕ) (budget turn : ℕ) → IsCalm shelf → IsCommand words (batch list budget turn) →
      shelf.before.holds list ≡ nothing → Decided words shelf status.ReadFault [] (cannot_read_note list) 1
  -- the fetch of its list failed
  list_unread : (list : List ℕ) (budget turn : ℕ) → FetchFailed shelf → IsCommand words (batch list budget turn) →
      Decided words shelf status.ReadFault [] (cannot_read_note list) 1
  -- the bytes are the text of no list
  list_refused : (list : List ℕ) (budget turn : ℕ) (xs note : List ℕ) → IsCalm shelf → IsCommand words (batch list budget turn) →
      MayGive (shelf.before.holds list) xs → IsBadList xs note → Decided words shelf status.BadList [] note 1
  -- nothing is held under the name of a file of a job
  job_missing : (list : List ℕ) (budget turn : ℕ) (jobs : List ListedJob) (file : List ℕ) (k : ℕ) → IsCalm shelf →
      HasJobs words shelf.before list budget turn jobs → StopsAtFile shelf.before.holds IsMissing jobs file k →
      Decided words shelf status.ReadFault [] (cannot_read_note file) (1 + k)
  -- the fetch of a file of a job failed
  job_unread : (list : List ℕ) (budget turn : ℕ) (jobs : List ListedJob) (file : List ℕ) (k : ℕ) → FetchFailed shelf →
      HasJobs words shelf.before list budget turn jobs → StopsAtFile shelf.before.holds IsAny jobs file k →
      Decided words shelf status.ReadFault [] (cannot_read_note file) (1 + k)
  -- each job ended as it would alone
  batched : (list : List ℕ) (budget turn : ℕ) (jobs : List ListedJob) (ends : List End) (k : ℕ) → IsCalm shelf →
      HasJobs words shelf.before list budget turn jobs → AllEnd shelf.before.holds budget jobs ends k →
      Decided words shelf status.Done (batch_text 1 ends) [] (1 + k)

-- how often files may be fetched: never where the words are no command, else once for each file that they name at most, and of
-- a batch the files of its jobs in order
pub data MayFetch (words : List (List ℕ)) (shelf : ShelfState) : ℕ → Type 0 where
  never : MayFetch words shelf zero
  for_names : (request : Request) (k : ℕ) → IsCommand words request → k ≤ length (files_of request) → MayFetch words shelf k
  for_batch : (list : List ℕ) (budget turn k : ℕ) → IsCommand words (batch list budget turn) → MayFetchBatch shelf list k →
      MayFetch words shelf k

-- the answer of the top call to its words, by what the shelf tells, with what was fetched and put
pub data Answers (words : List (List ℕ)) (shelf : Change ShelfState) (out notes : Change SinkState) : Status → Type 0 where
  -- a text was decided, and out got it
  written : (text : List ℕ) (k : ℕ) → Decided words shelf status.Done text [] k → Fetched shelf k →
      Got out text → Untouched notes → Answers words shelf out notes status.Done
  -- another status was decided, and notes got its line
  noted : (s : Status) (note : List ℕ) (k : ℕ) → Decided words shelf s [] note k → s ≢ status.Done → Fetched shelf k →
      Untouched out → Got notes note → Answers words shelf out notes s
  -- a text was decided that isn't empty, and out failed
  unwritten : (text : List ℕ) (k : ℕ) → Decided words shelf status.Done text [] k → text ≢ [] → Fetched shelf k →
      Failed out text → Noted notes cannot_write_note → Answers words shelf out notes status.WriteFault
  -- another status was decided, and notes failed
  unnoted : (s : Status) (note : List ℕ) (k : ℕ) → Decided words shelf s [] note k → s ≢ status.Done → Fetched shelf k →
      Untouched out → Failed notes note → Answers words shelf out notes status.WriteFault
  -- memory ran out before anything was written
  no_memory : (k : ℕ) → MayFetch words shelf.before k → Fetched shelf k → Stood shelf.before.faults shelf.after.faults →
      Untouched out → Noted notes no_memory_note → Answers words shelf out notes status.NoMemory
