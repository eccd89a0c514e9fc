-- Where a command stops before it has a text for out, and what is written at its end.
use Rattle.std.specs.Prelude.{◌≡◌, ◌≢◌, ℕ, ◌⊎◌, List, [], ◌++◌, Result, Ok, Err, Vec}
use Rattle.std.specs.declared.alloc.Global.{Global}
use Rattle.ig_text.specs.Lines.{line_end}
use Rattle.ig_text.specs.declared.text.TextFault.TheVariants as text_fault
use Rattle.ig_outside.specs.States.{SinkState}
use Rattle.ig_command_endings.specs.declared.stop.Stop.{Stop}
use Rattle.ig_command_endings.specs.declared.stop.Stop.TheVariants as halt
use Rattle.ig_command_endings.specs.declared.status.Status.{Status}
use Rattle.ig_command_endings.specs.declared.status.Status.TheVariants as status
use Rattle.ig_command_endings.specs.Change.{Change, Got, Failed, Untouched, Noted}
use Rattle.ig_command_endings.specs.Notes.{budget_note, cannot_read_note, cannot_write_note, grammar_note, input_note, no_memory_note}

-- a line of two pieces
abbrev pub IsLine : List ℕ → List ℕ → Vec ℕ Global → Type 0
IsLine front back line = line.items ≡ (front ++ back) ++ line_end

-- the stop has that status and that line; want of memory may come at any time
abbrev pub StopsWith : Status → List ℕ → Stop → Type 0
StopsWith s note (halt.Note t line) = (t ≡ s) × (line.items ≡ note)
StopsWith s note halt.Memory = Unit {0}

abbrev pub IsStop : Status → List ℕ → List ℕ → Stop → Type 0
IsStop s front back = StopsWith s ((front ++ back) ++ line_end)

-- a grammar is refused with this text
abbrev pub RefusesWith : List ℕ → Stop → Type 0
RefusesWith text = StopsWith status.Grammar (grammar_note text)

abbrev pub IsCannotRead : List ℕ → Stop → Type 0
IsCannotRead name = StopsWith status.ReadFault (cannot_read_note name)

abbrev pub IsTooLong : Stop → Type 0
IsTooLong = StopsWith status.Input (input_note text_fault.TooLong)

abbrev pub IsBadAt : ℕ → Stop → Type 0
IsBadAt at = StopsWith status.Input (input_note (text_fault.NotUtf8 at))

abbrev pub IsOverBudget : ℕ → Stop → Type 0
IsOverBudget budget = StopsWith status.Budget (budget_note budget)

-- the sinks got what was decided, as far as they took it
abbrev pub WritesText : List ℕ → Change SinkState → Change SinkState → Status → Type 0
WritesText text out notes answer =
    ((answer ≡ status.Done) × Got out text × Untouched notes) ⊎
    ((answer ≡ status.WriteFault) × (text ≢ []) × Failed out text × Noted notes cannot_write_note)

abbrev pub WritesNote : Status → List ℕ → Change SinkState → Status → Type 0
WritesNote s line notes answer =
    ((answer ≡ s) × Got notes line) ⊎ ((answer ≡ status.WriteFault) × Failed notes line)

abbrev pub GivesUp : Change SinkState → Status → Type 0
GivesUp notes answer = (answer ≡ status.NoMemory) × Noted notes no_memory_note

-- the end of a command that has this text for out, or that stopped here
abbrev pub Ends : Result (Vec ℕ Global) Stop → Change SinkState → Change SinkState → Status → Type 0
Ends (Ok text) out notes answer = WritesText text.items out notes answer
Ends (Err (halt.Note s line)) out notes answer = Untouched out × WritesNote s line.items notes answer
Ends (Err halt.Memory) out notes answer = Untouched out × GivesUp notes answer
