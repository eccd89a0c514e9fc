-- How jobs end: as each would by `forest` alone, with its files and the same budget.
use Rattle.std.specs.Prelude.{ℕ, List, []}
use Rattle.ig_text.specs.Input.{Input}
use Rattle.ig_outside.specs.Told.{Told}
use Rattle.ig_turns.specs.Lists.{Job}
use Rattle.ig_grammar.specs.declared.grammar.Grammar.{Grammar}
use Rattle.ig_command_endings.specs.declared.status.Status.{Status}
use Rattle.ig_command_jobs.specs.Jobs.{print}
use Rattle.ig_command_jobs.specs.Outcome.{Outcome}
use Rattle.ig_tool.specs.Counted.{EachCounted}
use Rattle.ig_tool.specs.Files.{GivesFiles, IsRefusedJob}
use Rattle.ig_tool.specs.Text.{End}

-- the status of the job, its text for out, its line for notes, and how many files are fetched for it
pub data JobEnds (holds : List ℕ → Told) (budget : ℕ) (job : Job) : Status → List ℕ → List ℕ → ℕ → Type 0 where
  -- a file of it is refused
  refused : (s : Status) (note : List ℕ) (k : ℕ) → IsRefusedJob holds job s note k → JobEnds holds budget job s [] note k
  -- its grammar and its input have this outcome, where their forest is to be printed
  parsed : (g : Grammar) (input : Input) (s : Status) (out note : List ℕ) → GivesFiles holds job g input →
      Outcome g input budget print s out note → JobEnds holds budget job s out note 2

-- the ends of jobs, in order, and how many files are fetched in all
abbrev pub AllEnd : (List ℕ → Told) → ℕ → List Job → List End → ℕ → Type 0
AllEnd holds budget = EachCounted (λ (job : Job) (end : End). JobEnds holds budget job end.status end.out end.note)
