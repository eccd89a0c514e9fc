use Rattle.std.proofs.Common.{◌≡◌, map, drop}
use Rattle.ig_item.specs.View.{step_of}
use Rattle.ig_analyse.specs.Steps.{has_terminal}
use Rattle.ig_analyse.proofs.rules.has_terminal.Given as goal

abbrev pub invariant-loop-step : goal.invariant-loop-step
invariant-loop-step l = has_terminal (map step_of (drop l.step-index l.step-items)) ≡ has_terminal l.alternative.steps
