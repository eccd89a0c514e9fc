-- Calls among the steps of an alternative.
use Rattle.std.specs.Prelude.{ℕ, ◌<◌, ◌≤◌, List}
use Rattle.ig_item.specs.Step.{Step, Test, Bind, Term, Call}
use Rattle.ig_run_laws.specs.FirstCalls.{IsCallIn}

-- the step is a call
abbrev pub IsCall : Step → Type 0
IsCall (Test condition) = ⊥
IsCall (Bind name value) = ⊥
IsCall (Term what label excluded) = ⊥
IsCall (Call callee arguments label excluded) = Unit {0}

-- none of the steps before that one is a call
abbrev pub CallsNone : List Step → ℕ → Type 0
CallsNone steps dot = (k : ℕ) → k < dot → IsCallIn steps k → ⊥

-- none of those from one step on, and before another, is a call
abbrev pub CallsNoneFrom : List Step → ℕ → ℕ → Type 0
CallsNoneFrom steps k dot = (j : ℕ) → k ≤ j → j < dot → IsCallIn steps j → ⊥
