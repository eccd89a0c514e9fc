-- What is loaded of jobs before they are played.
use Rattle.std.specs.Prelude.{◌≡◌, ℕ, ◌++◌, List, [], ◌∷◌, All, map, Some, Result, Ok, Err, slice_get}
use Rattle.ig_text.specs.Decoding.{IsDecoded}
use Rattle.ig_outside.specs.States.{ShelfState}
use Rattle.ig_outside.specs.Told.{Told}
use Rattle.ig_command.specs.declared.command.Notation.TheVariants.{Own}
use Rattle.ig_turns.specs.Lists.{Job}
use Rattle.ig_grammar.specs.Checked.{CheckedGrammar}
use Rattle.ig_grammar.specs.declared.grammar.Grammar.{Grammar}
use Rattle.ig_core.specs.Lowered.{CoreOf, IsBuildable, IsNumbered}
use Rattle.ig_core.specs.Notation.{unchanged}
use Rattle.ig_command_endings.specs.Change.{Change, Fetched, IsCalm, Stood}
use Rattle.ig_command_endings.specs.Notes.{cannot_read_note}
use Rattle.ig_command_endings.specs.declared.status.Status.TheVariants as status
use Rattle.ig_command_endings.specs.declared.stop.Stop.{Stop}
use Rattle.ig_command_endings.specs.declared.stop.Stop.TheVariants as halt
use Rattle.ig_command_sources.specs.Accepted.{IsAccepted}
use Rattle.ig_command_sources.specs.Sources.{IsNoGrammar, IsNoInput, MayGive, RefusesNone, StopsFile}
use Rattle.ig_tool.specs.Batch.{CannotLoad}
use Rattle.ig_tool.specs.Counted.{EachCounted}
use Rattle.ig_tool.specs.Files.{GivesFiles, IsRefusedJob, MayLoad}
use Rattle.ig_tool.specs.declared.grammars.Kept.{Kept}
use Rattle.ig_tool.specs.declared.grammars.Found.{Found}
use Rattle.ig_tool.specs.declared.grammars.Found.TheVariants as found
use Rattle.ig_tool.specs.declared.loading.Loaded.{Loaded}
use Rattle.ig_tool.specs.declared.loading.Loaded.TheVariants as loaded
use Rattle.ig_tool.specs.declared.loading.Batch.{Batch}

-- a grammar that is kept is accepted, as it is written, and has its core grammar
pub record IsKept (kept : Kept) : Type 0 where
  pub accepted : IsAccepted Own kept.bytes.items kept.grammar.grammar
  pub as_it_is : kept.grammar ≡ unchanged kept.grammar.grammar
  pub buildable : IsBuildable kept.grammar
  pub numbered : IsNumbered kept.grammar
  pub core_is : kept.core ≡ CoreOf kept.grammar

abbrev pub grammars_of : List Kept → List CheckedGrammar
grammars_of kept = map (λ (k : Kept). k.grammar) kept

-- the bytes are accepted, and the grammar is kept; or they are refused
abbrev pub Accepts : List ℕ → Result Kept Stop → Type 0
Accepts xs (Ok kept) = IsKept kept × (kept.bytes.items ≡ xs)
Accepts xs (Err (halt.Note s line)) = IsNoGrammar Own xs s line.items
Accepts xs (Err halt.Memory) = Unit {0}

-- some are added at the end
abbrev pub Grows : List Kept → List Kept → Type 0
Grows old new = (more : List Kept) × (new ≡ old ++ more)

-- the place of a grammar that these bytes are a text of
pub record IsAt (kept : List Kept) (xs : List ℕ) (at : ℕ) : Type 0 where
  pub grammar : Grammar
  pub accepted : IsAccepted Own xs grammar
  pub there : slice_get (grammars_of kept) at ≡ Some (unchanged grammar)

-- it, or why the bytes are refused
abbrev pub PlacesGrammar : List Kept → List ℕ → Result Found Stop → Type 0
PlacesGrammar kept xs (Ok (found.At at)) = IsAt kept xs at
PlacesGrammar kept xs (Ok (found.Refused s note)) = IsNoGrammar Own xs s note.items
PlacesGrammar kept xs (Err (halt.Note s line)) = ⊥
PlacesGrammar kept xs (Err halt.Memory) = Unit {0}

-- a refusal is the answer of its job, and want of memory isn't
abbrev pub refused_text : Stop → Result Found Stop
refused_text (halt.Note s line) = Ok (found.Refused s line)
refused_text halt.Memory = Err halt.Memory

-- nor is a file that can't be read
abbrev pub refused_input : Stop → Result Loaded Stop
refused_input (halt.Note status.ReadFault line) = Err (halt.Note status.ReadFault line)
refused_input (halt.Note s line) = Ok (loaded.Refused s line)
refused_input halt.Memory = Err halt.Memory

-- the same of a file, by what the shelf tells of it, and its counts of faults
abbrev pub FindsGrammar : List Kept → Told → List ℕ → ℕ → ℕ → Result Found Stop → Type 0
FindsGrammar kept told name old new (Ok (found.At at)) =
    (new ≡ old) × ((xs : List ℕ) × MayGive told xs × IsAt kept xs at)
FindsGrammar kept told name old new (Ok (found.Refused s note)) =
    (new ≡ old) × ((xs : List ℕ) × MayGive told xs × IsNoGrammar Own xs s note.items)
FindsGrammar kept told name old new (Err stop) = StopsFile told name old new RefusesNone stop

-- an input with tabs of this width for the grammar of this place, or why it is refused
abbrev pub FindsInput : ℕ → ℕ → Told → List ℕ → ℕ → ℕ → Result Loaded Stop → Type 0
FindsInput tabs at told name old new (Ok (loaded.Accepted place input)) =
    (new ≡ old) × (place ≡ at) × ((ys : List ℕ) × MayGive told ys × IsDecoded tabs ys input)
FindsInput tabs at told name old new (Ok (loaded.Refused s note)) =
    (new ≡ old) × ((ys : List ℕ) × MayGive told ys × IsNoInput ys s note.items)
FindsInput tabs at told name old new (Err stop) = StopsFile told name old new RefusesNone stop

-- what was loaded of a job, with the place of its grammar among these, and how many files were fetched
abbrev pub IsLoaded : (List ℕ → Told) → List CheckedGrammar → Job → Loaded → ℕ → Type 0
IsLoaded holds grammars job (loaded.Refused s note) k = IsRefusedJob holds job s note.items k
IsLoaded holds grammars job (loaded.Accepted at input) k =
    (k ≡ 2) × ((g : Grammar) × GivesFiles holds job g input × (slice_get grammars at ≡ Some (unchanged g)))

abbrev pub AllLoaded : (List ℕ → Told) → List CheckedGrammar → List Job → List Loaded → ℕ → Type 0
AllLoaded holds grammars = EachCounted (IsLoaded holds grammars)

-- a file of the jobs stops the command, or memory ran out
abbrev pub StopsLoading : Change ShelfState → List Job → Stop → Type 0
StopsLoading shelf jobs (halt.Note s line) =
    (s ≡ status.ReadFault) ×
    ((name : List ℕ) × (line.items ≡ cannot_read_note name) × ((k : ℕ) × CannotLoad shelf jobs name k × Fetched shelf k))
StopsLoading shelf jobs halt.Memory =
    (k : ℕ) × MayLoad shelf.before.holds jobs k × Fetched shelf k × Stood shelf.before.faults shelf.after.faults

-- what is loaded of one job
abbrev pub LoadsJob : Change ShelfState → List Kept → Job → Result Loaded Stop → Type 0
LoadsJob shelf kept job (Ok l) =
    IsCalm shelf × ((k : ℕ) × IsLoaded shelf.before.holds (grammars_of kept) job l k × Fetched shelf k)
LoadsJob shelf kept job (Err stop) = StopsLoading shelf (job ∷ []) stop

-- what is loaded of all, with the grammars that are kept
pub record AreLoaded (shelf : Change ShelfState) (jobs : List Job) (kept : List Kept) (ls : List Loaded) : Type 0 where
  pub calm : IsCalm shelf
  pub all_kept : All IsKept kept
  pub fetches : ℕ
  pub all : AllLoaded shelf.before.holds (grammars_of kept) jobs ls fetches
  pub counted : Fetched shelf fetches

abbrev pub LoadsJobs : Change ShelfState → List Job → Result Batch Stop → Type 0
LoadsJobs shelf jobs (Ok batch) = AreLoaded shelf jobs batch.kept.items batch.jobs.items
LoadsJobs shelf jobs (Err stop) = StopsLoading shelf jobs stop
