-- A parse that goes on by single events.
use Rattle.std.specs.Prelude.{◌≡◌, ℕ, ◌+◌, ◌-◌, ◌^◌, ◌<◌, ◌≤◌, [], length, Option, Some, None}
use Rattle.ig_text.specs.Input.{Input}
use Rattle.ig_grammar.specs.Checked.{CheckedGrammar}
use Rattle.ig_core.specs.Lowered.{CoreOf}
use Rattle.ig_core.specs.Notation.{unchanged}
use Rattle.ig_item.specs.Items.{MoreThan}
use Rattle.ig_item.specs.declared.run_fault.RunFault.{RunFault}
use Rattle.ig_item.specs.declared.run_fault.RunFault.TheVariants as fault
use Rattle.ig_engine.specs.Running.{Running}
use Rattle.ig_command_jobs.specs.Question.{Question}
use Rattle.ig_command_jobs.specs.declared.stage.Stage.{Stage}
use Rattle.ig_command_jobs.specs.declared.stage.Stage.TheVariants as stage

-- what it is for, how many events it took, and a number that falls with each event
pub record Underway : Type 0 where
  pub question : Question
  pub taken : ℕ
  pub left : ℕ

abbrev pub underway : Question → ℕ → ℕ → Underway
underway question taken left = record { question = question; taken = taken; left = left }

-- each event takes the ticket of an item, of which there are at most as many as the budget; the last one finds that none waits,
-- or that more items are reachable
abbrev pub left_at : Stage → ℕ → ℕ → ℕ
left_at stage.Going budget events = budget + 1 - events
left_at stage.Whole budget events = 0
left_at stage.Over budget events = 0

-- where no event was refused, as many tickets were taken as there were events; `Budget` ends the parse
abbrev pub GoesOn : ℕ → Running → Option RunFault → Type 0
GoesOn events run None = events + length run.state.found.waiting ≡ length run.state.found.items
GoesOn events run (Some fault.Budget) = ⊥
GoesOn events run (Some fault.Memory) = Unit {0}

-- what is known of the run in each stage
abbrev pub IsAt : Stage → ℕ → Running → Type 0
IsAt stage.Going events run = (events ≤ run.budget) × GoesOn events run run.refused
IsAt stage.Whole events run = (run.refused ≡ None) × (run.state.found.waiting ≡ [])
IsAt stage.Over events run = MoreThan run.core run.text run.budget

-- the run is that of the grammar, which no pass has changed, and the input within the budget
pub record IsUnderway (c : CheckedGrammar) (input : Input) (budget events : ℕ) (at : Stage) (run : Running) : Type 0 where
  pub as_it_is : c ≡ unchanged c.grammar
  pub core : run.core ≡ CoreOf c
  pub text : run.text ≡ input
  pub budget_is : run.budget ≡ budget
  pub small : budget < 2 ^ 32
  pub is_at : IsAt at events run
