use Rattle.std.specs.Prelude.{map}
use Rattle.ig_engine.specs.FirstCalls.{CallsNoneFrom}
use Rattle.ig_item.specs.View.{step_of}
use Rattle.ig_engine.proofs.first_calls.calls_none.Given as goal

abbrev pub invariant-loop-number : goal.invariant-loop-number
invariant-loop-number l = CallsNoneFrom (map step_of l.steps) l.number l.dot
