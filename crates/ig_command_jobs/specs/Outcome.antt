-- What comes of a grammar, an input and a job: what `iguana` says, and each job of a batch.
use Rattle.std.specs.Prelude.{ℕ, List, []}
use Rattle.ig_text.specs.Input.{Input}
use Rattle.ig_grammar.specs.declared.grammar.Grammar.{Grammar}
use Rattle.ig_core.specs.Notation.{unchanged}
use Rattle.ig_forest_tables.specs.Forest.{Forest}
use Rattle.ig_parse.specs.Parses.{IsUnparsed, IsOver, HasForest}
use Rattle.ig_command_endings.specs.Notes.{budget_note}
use Rattle.ig_command_endings.specs.declared.status.Status.{Status}
use Rattle.ig_command_endings.specs.declared.status.Status.TheVariants as status
use Rattle.ig_command_jobs.specs.Jobs.{Job}
use Rattle.ig_command_jobs.specs.Finishes.{IsNoParseNote, Finishes}

-- the status, out's text and notes' line, from the grammar as it is written, the input, the budget and the job
pub data Outcome (g : Grammar) (input : Input) (budget : ℕ) (job : Job) : Status → List ℕ → List ℕ → Type 0 where
  -- more items are reachable than the budget allows
  over_budget : IsOver (unchanged g) input budget → Outcome g input budget job status.Budget [] (budget_note budget)
  -- no tree is permitted; the note says how far the items came, and what was expected there
  no_parse : (note : List ℕ) → (IsOver (unchanged g) input budget → ⊥) → IsUnparsed (unchanged g) input →
      IsNoParseNote (unchanged g) input note → Outcome g input budget job status.NoParse [] note
  -- a tree is permitted, and the one reduced forest says what comes of the job: to every depth it unfolds to exactly the
  -- permitted trees of at most that height. Where it is to be printed, out gets its text
  parsed : (f : Forest) (s : Status) (out note : List ℕ) → HasForest (unchanged g) input budget f →
      Finishes (unchanged g) input f job s out note → Outcome g input budget job s out note
