-- What is decided before anything is written: a text, or where the command stops.
use Rattle.std.specs.Prelude.{◌≡◌, ◌≢◌, ℕ, List, [], Result, Ok, Err, Vec}
use Rattle.std.specs.declared.alloc.Global.{Global}
use Rattle.ig_text.specs.Input.{Input}
use Rattle.ig_text.specs.Decoding.{IsDecoded}
use Rattle.ig_outside.specs.States.{ShelfState}
use Rattle.ig_outside.specs.Told.{Told}
use Rattle.ig_grammar.specs.Tabs.{tab_width}
use Rattle.ig_grammar.specs.Checked.{CheckedGrammar}
use Rattle.ig_command_endings.specs.Change.{Change, Fetched, Stood}
use Rattle.ig_command_endings.specs.declared.stop.Stop.{Stop}
use Rattle.ig_command_endings.specs.declared.stop.Stop.TheVariants as halt
use Rattle.ig_command_endings.specs.declared.status.Status.{Status}
use Rattle.ig_command_endings.specs.declared.status.Status.TheVariants as status
use Rattle.ig_command_sources.specs.Sources.{MayGive, StopsAt, IsNoInput, IsLongForest}
use Rattle.ig_command_jobs.specs.Jobs.{Job}
use Rattle.ig_command_jobs.specs.Texts.{IsParse, StopsParse}
use Rattle.ig_command_jobs.specs.Verifying.{IsReducedText, Verifies}
use Rattle.ig_tool.specs.Outcome.{Decided, MayFetch}

-- why a parser and the input of this name give no text, by what the shelf tells of it and its counts of faults
pub data StopsRun (c : CheckedGrammar) (budget : ℕ) (job : Job) (told : Told) (name : List ℕ) (old new : ℕ) :
    Status → List ℕ → Type 0 where
  at_input : (s : Status) (note : List ℕ) → StopsAt told name old new IsNoInput s note →
      StopsRun c budget job told name old new s note
  at_parse : (s : Status) (note ys : List ℕ) (input : Input) → new ≡ old → MayGive told ys → IsDecoded (tab_width c.grammar.tabs) ys input →
      StopsParse c input budget job s note → StopsRun c budget job told name old new s note

-- the text that the job makes of the parser and the input
pub record GivesText (c : CheckedGrammar) (budget : ℕ) (job : Job) (told : Told) (old new : ℕ) (text : List ℕ) : Type 0 where
  pub calm : new ≡ old
  pub input_bytes : List ℕ
  pub input : Input
  pub gives_input : MayGive told input_bytes
  pub decoded : IsDecoded (tab_width c.grammar.tabs) input_bytes input
  pub is_parse : IsParse c input budget job status.Done text []

-- a job with the parser and the input of this name
abbrev pub RunsJob : CheckedGrammar → ℕ → Job → Change ShelfState → List ℕ → Result (Vec ℕ Global) Stop → Type 0
RunsJob c budget job shelf name (Ok text) =
    GivesText c budget job (shelf.before.holds name) shelf.before.faults shelf.after.faults text.items
RunsJob c budget job shelf name (Err (halt.Note s line)) =
    StopsRun c budget job (shelf.before.holds name) name shelf.before.faults shelf.after.faults s line.items
RunsJob c budget job shelf name (Err halt.Memory) = Stood shelf.before.faults shelf.after.faults

-- why a parser, an input and the text of a forest that has this name give no line, by what the shelf tells of it and its counts
-- of faults
pub data StopsCheck (c : CheckedGrammar) (input : Input) (told : Told) (name : List ℕ) (old new : ℕ) :
    Status → List ℕ → Type 0 where
  at_file : (s : Status) (note : List ℕ) → StopsAt told name old new IsLongForest s note →
      StopsCheck c input told name old new s note
  at_text : (s : Status) (note zs : List ℕ) → new ≡ old → MayGive told zs → Verifies c input zs s [] note → s ≢ status.Done →
      (IsReducedText c input zs → ⊥) → StopsCheck c input told name old new s note

-- the line that comes of the parser, the input and the text of a forest
pub record GivesLine (c : CheckedGrammar) (input : Input) (told : Told) (old new : ℕ) (line : List ℕ) : Type 0 where
  pub calm : new ≡ old
  pub bytes : List ℕ
  pub gives : MayGive told bytes
  pub verifies : Verifies c input bytes status.Done line []

-- a check of the forest whose text has this name
abbrev pub RunsCheck : CheckedGrammar → Input → Change ShelfState → List ℕ → Result (Vec ℕ Global) Stop → Type 0
RunsCheck c input shelf name (Ok text) =
    GivesLine c input (shelf.before.holds name) shelf.before.faults shelf.after.faults text.items
RunsCheck c input shelf name (Err (halt.Note s line)) =
    StopsCheck c input (shelf.before.holds name) name shelf.before.faults shelf.after.faults s line.items
RunsCheck c input shelf name (Err halt.Memory) = Stood shelf.before.faults shelf.after.faults

-- what is decided before anything is written
abbrev pub Decides : List (List ℕ) → Change ShelfState → Result (Vec ℕ Global) Stop → Type 0
Decides words shelf (Ok text) = (k : ℕ) × Decided words shelf status.Done text.items [] k × Fetched shelf k
Decides words shelf (Err (halt.Note s line)) =
    (k : ℕ) × Decided words shelf s [] line.items k × Fetched shelf k × (s ≢ status.Done)
Decides words shelf (Err halt.Memory) =
    (k : ℕ) × MayFetch words shelf.before k × Fetched shelf k × Stood shelf.before.faults shelf.after.faults
