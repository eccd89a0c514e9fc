-- What the files of jobs come to, by what the shelf tells of each name, and how many of them are fetched.
use Rattle.std.specs.Prelude.{◌≡◌, ◌≢◌, ℕ, ◌+◌, List, ◌∷◌}
use Rattle.ig_text.specs.Input.{Input}
use Rattle.ig_text.specs.Decoding.{IsDecoded, IsFaulty}
use Rattle.ig_text.specs.declared.text.TextFault.{TextFault}
use Rattle.ig_text.specs.declared.text.TextFault.TheVariants as text_fault
use Rattle.ig_outside.specs.Told.{Told, bytes}
use Rattle.ig_command.specs.declared.command.Notation.TheVariants.{Own}
use Rattle.ig_turns.specs.Lists.{Job}
use Rattle.ig_grammar.specs.Tabs.{tab_width}
use Rattle.ig_grammar.specs.declared.grammar.Grammar.{Grammar}
use Rattle.ig_command_endings.specs.Notes.{grammar_note, input_note}
use Rattle.ig_command_endings.specs.declared.status.Status.{Status}
use Rattle.ig_command_endings.specs.declared.status.Status.TheVariants as status
use Rattle.ig_command_sources.specs.Accepted.{IsAccepted}
use Rattle.ig_command_sources.specs.Refusals.{IsRefused}
use Rattle.ig_command_sources.specs.Sources.{MayGive}

-- the files of the job may give this grammar, which is accepted, and this input, with the width of tabs that the grammar says
pub record GivesFiles (holds : List ℕ → Told) (job : Job) (g : Grammar) (input : Input) : Type 0 where
  pub grammar_bytes : List ℕ
  pub gives_grammar : MayGive (holds job.grammar) grammar_bytes
  pub accepted : IsAccepted Own grammar_bytes g
  pub input_bytes : List ℕ
  pub gives_input : MayGive (holds job.input) input_bytes
  pub decoded : IsDecoded (tab_width g.tabs) input_bytes input

-- a file of the job is refused: its status, its line for notes, and how many files are fetched
pub data IsRefusedJob (holds : List ℕ → Told) (job : Job) : Status → List ℕ → ℕ → Type 0 where
  -- the grammar, and then the input isn't fetched
  by_grammar : (xs text : List ℕ) → MayGive (holds job.grammar) xs → IsRefused Own xs text →
      IsRefusedJob holds job status.Grammar (grammar_note text) 1
  -- the input, where the grammar is accepted
  by_input : (xs ys : List ℕ) (g : Grammar) (fault : TextFault) → MayGive (holds job.grammar) xs → IsAccepted Own xs g →
      MayGive (holds job.input) ys → IsFaulty ys fault → fault ≢ text_fault.Memory →
      IsRefusedJob holds job status.Input (input_note fault) 2

-- the files that the job wants were fetched, so many
pub data JobLoads (holds : List ℕ → Told) (job : Job) : ℕ → Type 0 where
  refused : (s : Status) (note : List ℕ) (k : ℕ) → IsRefusedJob holds job s note k → JobLoads holds job k
  given : (g : Grammar) (input : Input) → GivesFiles holds job g input → JobLoads holds job 2

-- the files of jobs are fetched in order up to the first of which that fails; its name, and how many are fetched
pub data StopsAtFile (holds : List ℕ → Told) (Fails : Told → Type 0) : List Job → List ℕ → ℕ → Type 0 where
  at_grammar : (job : Job) (jobs : List Job) → Fails (holds job.grammar) →
      StopsAtFile holds Fails (job ∷ jobs) job.grammar 1
  at_input : (job : Job) (jobs : List Job) (xs : List ℕ) (g : Grammar) → MayGive (holds job.grammar) xs → IsAccepted Own xs g →
      Fails (holds job.input) → StopsAtFile holds Fails (job ∷ jobs) job.input 2
  behind : (job : Job) (jobs : List Job) (name : List ℕ) (k n m : ℕ) → JobLoads holds job k →
      StopsAtFile holds Fails jobs name n → m ≡ k + n → StopsAtFile holds Fails (job ∷ jobs) name m

-- how many files of jobs may have been fetched where memory runs out
pub data MayLoad (holds : List ℕ → Told) : List Job → ℕ → Type 0 where
  no_more : (jobs : List Job) → MayLoad holds jobs 0
  one_more : (job : Job) (jobs : List Job) → MayLoad holds (job ∷ jobs) 1
  two_more : (job : Job) (jobs : List Job) (xs : List ℕ) (g : Grammar) → MayGive (holds job.grammar) xs → IsAccepted Own xs g →
      MayLoad holds (job ∷ jobs) 2
  later : (job : Job) (jobs : List Job) (k n m : ℕ) → JobLoads holds job k → MayLoad holds jobs n → m ≡ k + n →
      MayLoad holds (job ∷ jobs) m

-- the shelf tells that it holds the grammar of the job and, where that is accepted, its input
pub record IsHeld (holds : List ℕ → Told) (job : Job) : Type 0 where
  pub grammar_bytes : List ℕ
  pub holds_grammar : holds job.grammar ≡ bytes grammar_bytes
  pub holds_input : (g : Grammar) → IsAccepted Own grammar_bytes g → (ys : List ℕ) × (holds job.input ≡ bytes ys)
