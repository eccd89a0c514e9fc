use Rattle.std.proofs.Common.{map, drop}
use Rattle.ig_item.specs.View.{step_of}
use Rattle.ig_analyse.proofs.Adding.{IsAlone}
use Rattle.ig_analyse.proofs.edges.push_alones.Given as goal

abbrev pub invariant-loop-step : goal.invariant-loop-step
invariant-loop-step l = IsAlone l.nullable l.fn.row.items l.row.items l.alternative.steps (map step_of (drop l.step-index l.step-items)) l.left
