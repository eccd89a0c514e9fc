-- What comes of a batch: a text, or where the command stops.
use Rattle.std.specs.Prelude.{◌≡◌, ℕ, ◌+◌, List, Result, Ok, Err, Vec}
use Rattle.std.specs.declared.alloc.Global.{Global}
use Rattle.ig_outside.specs.States.{ShelfState}
use Rattle.ig_outside.specs.Told.{Told, nothing}
use Rattle.ig_turns.specs.Lists.{Job}
use Rattle.ig_command_endings.specs.Change.{Change, Fetched, FetchFailed, IsCalm, Stood}
use Rattle.ig_command_endings.specs.Notes.{cannot_read_note}
use Rattle.ig_command_endings.specs.declared.status.Status.{Status}
use Rattle.ig_command_endings.specs.declared.status.Status.TheVariants as status
use Rattle.ig_command_endings.specs.declared.stop.Stop.{Stop}
use Rattle.ig_command_endings.specs.declared.stop.Stop.TheVariants as halt
use Rattle.ig_command_sources.specs.Sources.{IsListOf, IsNoList, MayGive, StopsAt}
use Rattle.ig_tool.specs.Ends.{AllEnd}
use Rattle.ig_tool.specs.Files.{MayLoad, StopsAtFile}
use Rattle.ig_tool.specs.Text.{End, batch_text}

-- the file of the list may give bytes that are the text of these jobs
pub record GivesJobs (told : Told) (jobs : List Job) : Type 0 where
  pub bytes : List ℕ
  pub gives : MayGive told bytes
  pub listed : IsListOf bytes jobs

-- nothing is held
abbrev pub IsMissing : Told → Type 0
IsMissing told = told ≡ nothing

-- whatever is held
abbrev pub IsAny : Told → Type 0
IsAny told = Unit {0}

-- a file of the jobs can't be read: its name, and how many files are fetched
pub data CannotLoad (shelf : Change ShelfState) (jobs : List Job) (name : List ℕ) (k : ℕ) : Type 0 where
  -- nothing is held under the name
  missing : IsCalm shelf → StopsAtFile shelf.before.holds IsMissing jobs name k → CannotLoad shelf jobs name k
  -- its fetch failed
  unread : FetchFailed shelf → StopsAtFile shelf.before.holds IsAny jobs name k → CannotLoad shelf jobs name k

-- the text for out, with the ends of all jobs
pub record GivesBatch (budget : ℕ) (shelf : Change ShelfState) (list text : List ℕ) : Type 0 where
  pub calm : IsCalm shelf
  pub jobs : List Job
  pub gives_jobs : GivesJobs (shelf.before.holds list) jobs
  pub ends : List End
  pub fetches : ℕ
  pub all_end : AllEnd shelf.before.holds budget jobs ends fetches
  pub counted : Fetched shelf (1 + fetches)
  pub text_is : text ≡ batch_text 1 ends

-- why there is none: the list isn't there or is none, or a file of a job can't be read
pub data StopsBatch (shelf : Change ShelfState) (list : List ℕ) (s : Status) (note : List ℕ) : ℕ → Type 0 where
  at_list : StopsAt (shelf.before.holds list) list shelf.before.faults shelf.after.faults IsNoList s note →
      StopsBatch shelf list s note 1
  at_job : (jobs : List Job) (name : List ℕ) (k : ℕ) → GivesJobs (shelf.before.holds list) jobs →
      CannotLoad shelf jobs name k → s ≡ status.ReadFault → note ≡ cannot_read_note name → StopsBatch shelf list s note (1 + k)

-- how many files may have been fetched where memory ran out
pub data MayFetchBatch (shelf : ShelfState) (list : List ℕ) : ℕ → Type 0 where
  the_list : MayFetchBatch shelf list 1
  of_jobs : (jobs : List Job) (k : ℕ) → GivesJobs (shelf.holds list) jobs → MayLoad shelf.holds jobs k →
      MayFetchBatch shelf list (1 + k)

-- what comes of the batch whose list has this name
abbrev pub RunsBatch : ℕ → Change ShelfState → List ℕ → Result (Vec ℕ Global) Stop → Type 0
RunsBatch budget shelf list (Ok text) = GivesBatch budget shelf list text.items
RunsBatch budget shelf list (Err (halt.Note s line)) = (k : ℕ) × StopsBatch shelf list s line.items k × Fetched shelf k
RunsBatch budget shelf list (Err halt.Memory) =
    (k : ℕ) × MayFetchBatch shelf.before list k × Fetched shelf k × Stood shelf.before.faults shelf.after.faults
