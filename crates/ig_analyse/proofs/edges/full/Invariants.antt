use Rattle.std.proofs.Common.{◌≡◌, ◌≤◌, ◌+◌, map, drop}
use Rattle.ig_item.specs.View.{step_of}
use Rattle.ig_analyse.specs.Rows.{full}
use Rattle.ig_analyse.proofs.edges.full.Given as goal

abbrev pub invariant-loop-step : goal.invariant-loop-step
invariant-loop-step l =
    (l.count + full l.nullable (map step_of (drop l.step-index l.step-items)) ≡ full l.nullable l.alternative.steps) × (l.count ≤ l.step-index)
