-- What a job is for, and what comes of it.
use Rattle.std.specs.Prelude.{◌≡◌, ℕ, List, []}
use Rattle.ig_text.specs.Input.{Input}
use Rattle.ig_grammar.specs.declared.grammar.Grammar.{Grammar}
use Rattle.ig_command_endings.specs.declared.status.Status.{Status}
use Rattle.ig_command_jobs.specs.Jobs.{print}
use Rattle.ig_command_jobs.specs.Outcome.{Outcome}

pub data Question : Type 0 where
  -- a file of the job is refused, with this status and this line
  refused : (status : Status) (note : List ℕ) → Question
  -- the grammar, as it is written, parses the input within the budget
  parses : (g : Grammar) (input : Input) (budget : ℕ) → Question

-- the status, out's text and notes' line: those that the grammar and the input alone have
abbrev pub Ends : Question → Status → List ℕ → List ℕ → Type 0
Ends (refused t line) s out note = (s ≡ t) × (out ≡ []) × (note ≡ line)
Ends (parses g input budget) s out note = Outcome g input budget print s out note
