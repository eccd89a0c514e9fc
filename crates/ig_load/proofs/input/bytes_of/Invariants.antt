use Rattle.std.proofs.Common.{◌≡◌, ◌-◌, ◌++◌}
use Rattle.std.specs.Prelude.{flat_map}
use Rattle.ig_load.specs.Operators.{step_text}
use Rattle.ig_load.specs.Input.{LoadInput, steps_from}
use Rattle.ig_load.proofs.input.bytes_of.Given as goal

abbrev pub invariant-loop : goal.invariant-loop
invariant-loop l =
    l.bytes.items ++ flat_map step_text (steps_from l.state (l.size - l.counter)) ≡ LoadInput l.size l.number
