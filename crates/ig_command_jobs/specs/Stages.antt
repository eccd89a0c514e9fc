-- How far a parse is.
use Rattle.std.specs.Prelude.{◌≡◌, Bool, true, false, Result, Ok, Err}
use Rattle.ig_item.specs.declared.run_fault.RunFault.{RunFault}
use Rattle.ig_item.specs.declared.run_fault.RunFault.TheVariants as fault
use Rattle.ig_engine.specs.declared.progress.Progress.{Progress}
use Rattle.ig_engine.specs.declared.progress.Progress.TheVariants as progress
use Rattle.ig_command_jobs.specs.declared.stage.Stage.{Stage}
use Rattle.ig_command_jobs.specs.declared.stage.Stage.TheVariants as stage

-- whether the last event was taken
abbrev pub is_last : Stage → Bool
is_last stage.Going = false
is_last stage.Whole = true
is_last stage.Over = true

-- the stage behind a step of a run, unless it was refused for want of memory
abbrev pub Follows : {E : Type 0} → Result Progress RunFault → Result Stage E → Type 0
Follows (Ok progress.More) (Ok s) = s ≡ stage.Going
Follows (Ok progress.Done) (Ok s) = s ≡ stage.Whole
Follows (Ok progress.More) (Err e) = ⊥
Follows (Ok progress.Done) (Err e) = ⊥
Follows (Err fault.Budget) (Ok s) = s ≡ stage.Over
Follows (Err fault.Budget) (Err e) = ⊥
Follows (Err fault.Memory) (Ok s) = ⊥
Follows (Err fault.Memory) (Err e) = Unit {0}
